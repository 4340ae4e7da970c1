-- THE RUN-LENGTH ENGINE REFINES THE TABLE MACHINE: the proof of Statement's claim. Assumes nothing.
use Rattle.std.specs.Prelude.{◌≡◌, refl, false, Some}
use Rattle.std.proofs.Common.{sym, ap, ◌∙◌, subst, arith}
use Prim.Native.Nat.{ℕ, zero, suc, ◌+◌, ◌-◌, ◌≤◌, ◌<◌, ◌^◌}
use Rattle.std.proofs.Math.Decide.{dec_lt}
use Rattle.notation.proofs.Facts.Tests.{by_test}
use Rattle.outcome.specs.declared.Outcome.{Outcome}
use Rattle.machine.specs.declared.Machine.{Machine}
use Rattle.machine.specs.declared.Action.{Action}
use Rattle.table_machine.specs.TableMachine.{Config, entry, run, halts, Halted}
use Rattle.table_machine.specs.Tables.{TableOf}
use Rattle.table_machine.proofs.Facts.Run.{not_defined, run_add}
use Rattle.table_machine.proofs.Facts.Table.{accepted_table}
use Rattle.run_rules.specs.Model.Task.{Task, task}
use Rattle.rle.specs.Model.Engine.{Conf, macro_of, End, end, on_plan, run_within, run_of, Macro, Plan, Stop}
use Rattle.rle_refines.specs.Meaning.{config_of, ChainFits}
use Rattle.rle_refines.specs.Statement.{table_in, after, Unproved, has_rule, is_full, Kept, Went, Answers, verdict, halted, spent, stopped, full, Refines, ChainRefines}
use Rattle.rle_refines.proofs.Facts.Canonical.{FullIn, full_same}
use Rattle.rle_refines.proofs.Facts.MacroStep.{macro}
use Rattle.rle_refines.proofs.Facts.Plan as P
use Rattle.rle_refines.proofs.Facts.Plan.{Repeats, Plans, plan_right}
use Rattle.rle_refines.proofs.Facts.InsideMacroStep.{after_macro_steps, after_macro_macros, cut_holds, cut_kept, way_entry, way_unproved, way_unmatched, way_roomy}

-- ---- what two changes in a row keep

kept_none : (m : Machine) (σ : Conf) → ChainFits m σ → Kept m σ σ
kept_none m σ f = record { fits = f; same_ls = refl; same_ll = refl; same_rs = refl; same_rl = refl }

kept_both : (m : Machine) (σ τ e : Conf) → Kept m σ τ → Kept m τ e → Kept m σ e
kept_both m σ τ e p q = record {
  fits = q.fits;
  same_ls = q.same_ls ∙ p.same_ls;
  same_ll = q.same_ll ∙ p.same_ll;
  same_rs = q.same_rs ∙ p.same_rs;
  same_rl = q.same_rl ∙ p.same_rl;
}

-- ---- a run that makes no step

module _ (k : Task) (fuel : ℕ) (σ : Conf) where
  stays_here : ChainFits k.machine σ → Went k 0 σ σ
  unfolding run
  stays_here f = record {
    holds = refl;
    counted = omega arith;
    macros = omega arith;
    kept = kept_none k.machine σ f;
    running = λ j h. absurd (omega arith);
    unproved = λ j h. absurd (omega arith);
    unmatched = λ j h. absurd (omega arith);
    roomy = λ j h. absurd (omega arith);
  }

  answers_here : {o : Outcome} → Plans k fuel σ (Stop o) → Answers k fuel 0 σ o
  answers_here (P.no_entry h) = by_test k.proves (λ t. verdict _ t (halts h) (λ n e. let z : ◌≡◌ {A = ℕ} 0 1 = cc in absurd (omega arith))) (λ t. halted t h)
  answers_here (P.loops p t v) = verdict _ t v (λ n e. let z : ◌≡◌ {A = ℕ} 0 1 = cc in absurd (omega arith))
  answers_here (P.spent a e u z) = by_test k.proves (λ t. verdict _ t (u t) (λ n _. z)) (λ t. spent t (λ h. not_defined _ a h e) z)
  answers_here (P.stops a e u l r) = stopped a l e u r
  answers_here (P.lacks_place a e u l r g) = full a l e u r g

  ends_here : (o : Outcome) → ChainFits k.machine σ → Plans k fuel σ (Stop o) → Refines k fuel σ (end σ o)
  ends_here o f p = record { made = 0; within = omega arith; went = stays_here f; answers = answers_here p }

-- ---- two runs in a row

module _ (k : Task) (n made : ℕ) (σ τ e : Conf) (w : Went k n σ τ) (v : Went k made τ e) where
  -- i steps after the first run
  later : (i : ℕ) → after k i τ ≡ after k (n + i) σ
  later i = ap (run (table_in k) i) w.holds ∙ sym (run_add (table_in k) n i (config_of σ))

  -- what holds of all configurations of the first run, and of the second, holds of all
  all_along : (P : Config → Type 0) → ((i : ℕ) → i < n → P (after k i σ)) → ((i : ℕ) → i < made → P (after k i τ)) → (i : ℕ) → i < n + made → P (after k i σ)
  all_along P h g i l = by (dec_lt i n)
    where
      by : Dec (i < n) → P (after k i σ)
      by (yes x) = h i x
      by (no x) = let q : n + (i - n) ≡ i = omega arith in subst (λ c. P (after k c σ)) q (subst P (later (i - n)) (g (i - n) (omega arith)))

  went_both : Went k (n + made) σ e
  went_both = record {
    holds = v.holds ∙ later made;
    counted = omega (arith, w.counted, v.counted);
    macros = omega (arith, w.macros, v.macros);
    kept = kept_both k.machine σ τ e w.kept v.kept;
    running = all_along (λ c. ¬ (Halted (table_in k) c)) w.running v.running;
    unproved = all_along (Unproved k) w.unproved v.unproved;
    unmatched = all_along (λ c. has_rule k c ≡ false) w.unmatched v.unmatched;
    roomy = all_along (λ c. ¬ (FullIn k.machine (table_in k) σ c)) w.roomy
        (λ i l g. v.roomy i l ((full_same k.machine (table_in k) σ τ w.kept (after k i τ)).0 g));
  }

answers_later : (k : Task) (n : ℕ) {fuel made : ℕ} {e : Conf} {o : Outcome} → Answers k fuel made e o → Answers k (n + fuel) (n + made) e o
answers_later k n (verdict o t v g) = verdict o t v (λ i h. ap (λ x. n + x) (g i h))
answers_later k n (halted t h) = halted t h
answers_later k n (spent t h q) = spent t h (ap (λ x. n + x) q)
answers_later k n (stopped b l h v q) = stopped b (omega arith) h v q
answers_later k n (full b l h v q g) = full b (omega arith) h v q g

pub refines_later : (k : Task) (n fuel : ℕ) (σ τ : Conf) (x : End) → Went k n σ τ → Refines k fuel τ x → Refines k (n + fuel) σ x
refines_later k n fuel σ τ x w r = record {
  made = n + r.made;
  within = omega (arith, r.within);
  went = went_both k n r.made σ τ x.at w r.went;
  answers = answers_later k n r.answers;
}

-- ---- a macro step, and a run from there

module _ (k : Task) (table : TableOf k.machine (table_in k)) (single : k.machine.tapes ≡ 1) (σ : Conf) (f : ChainFits k.machine σ)
    (a : Action) (e : entry (table_in k) (config_of σ) ≡ Some a) (u : Unproved k (config_of σ)) (unruled : has_rule k (config_of σ) ≡ false) (room : is_full σ a ≡ false)
    (fuel j : ℕ) (r : Repeats σ a fuel (suc j)) (small : σ.sim.steps + fuel ≤ 2 ^ 62) where
  abbrev next : Conf
  next = macro_of (macro a (suc j)) σ

  within_fuel : suc j ≤ fuel
  within_fuel = r.within

  so_far : σ.sim.steps + suc j ≤ 2 ^ 62
  so_far = omega (arith, within_fuel)

  next_steps : next.sim.steps ≡ σ.sim.steps + suc j
  next_steps = after_macro_steps (macro a (suc j)) σ a.dir0

  next_small : next.sim.steps + (fuel - suc j) ≤ 2 ^ 62
  next_small = omega (arith, next_steps, within_fuel)

  pub macro_went : Went k (suc j) σ next
  macro_went = record {
    holds = cut_holds k table single σ f a e room fuel (suc j) r so_far j (omega arith);
    counted = next_steps;
    macros = omega (arith, after_macro_macros (macro a (suc j)) σ a.dir0);
    kept = cut_kept k table single σ f a e room fuel (suc j) r so_far j (omega arith);
    running = λ i l h. not_defined _ a h (way_entry k table single σ f a e room fuel (suc j) r so_far i l);
    unproved = way_unproved k table single σ f a e room fuel (suc j) r so_far u;
    unmatched = way_unmatched k table single σ f a e room fuel (suc j) r so_far unruled;
    roomy = way_roomy k table single σ f a e room fuel (suc j) r so_far;
  }

  runs_on : (x : End) → Refines k (fuel - suc j) next x → Refines k fuel σ x
  runs_on x y =
      let q : suc j + (fuel - suc j) ≡ fuel = omega (arith, within_fuel) in
      subst (λ n. Refines k n σ x) q (refines_later k (suc j) (fuel - suc j) σ next x macro_went y)

-- ---- the run

module _ (k : Task) (table : TableOf k.machine (table_in k)) (single : k.machine.tapes ≡ 1) where
  -- any number above the fuel bounds the macro steps
  within_refines : (most fuel : ℕ) (σ : Conf) → ChainFits k.machine σ → σ.sim.steps + fuel ≤ 2 ^ 62 → fuel < most → Refines k fuel σ (run_within k most fuel σ)
  unfolding run_within
  within_refines zero fuel σ f small l = absurd (omega arith)
  within_refines (suc most) fuel σ f small l = by (λ j. within_refines most (fuel - j.repeats) (macro_of j σ)) (plan_right k table single fuel σ f)
    where
      by : ((j : Macro) → ChainFits k.machine (macro_of j σ) → (macro_of j σ).sim.steps + (fuel - j.repeats) ≤ 2 ^ 62 → fuel - j.repeats < most
          → Refines k (fuel - j.repeats) (macro_of j σ) (run_within k most (fuel - j.repeats) (macro_of j σ)))
          → {p : Plan} → Plans k fuel σ p → Refines k fuel σ (on_plan p (end σ) (λ j. run_within k most (fuel - j.repeats) (macro_of j σ)))
      by on (P.no_entry h) = ends_here k fuel σ _ f (P.no_entry h)
      by on (P.loops p t v) = ends_here k fuel σ _ f (P.loops p t v)
      by on (P.spent a e u z) = ends_here k fuel σ _ f (P.spent a e u z)
      by on (P.stops a e u g r) = ends_here k fuel σ _ f (P.stops a e u g r)
      by on (P.lacks_place a e u g r h) = ends_here k fuel σ _ f (P.lacks_place a e u g r h)
      by on (P.macro_steps a zero e u g h r) = absurd (omega (arith, r.some))
      by on (P.macro_steps a (suc j) e u g h r) = runs_on k table single σ f a e u g h fuel j r small _
          (on (macro a (suc j)) (macro_went k table single σ f a e u g h fuel j r small).kept.fits (next_small k table single σ f a e u g h fuel j r small) (omega (arith, r.within)))

  pub run_refines : (fuel : ℕ) (σ : Conf) → ChainFits k.machine σ → σ.sim.steps + fuel ≤ 2 ^ 62 → Refines k fuel σ (run_of k fuel σ)
  unfolding run_of
  run_refines fuel σ f small = within_refines (suc fuel) fuel σ f small (omega arith)

pub chain_refines : ChainRefines
chain_refines m s bytes accepted single proves rule = run_refines (task m s proves rule) (accepted_table m s bytes accepted) single
