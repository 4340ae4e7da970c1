-- THE PLAIN ENGINE REFINES THE TABLE MACHINE: the proof of Statement's claim. Assumes nothing.
use Rattle.std.specs.Prelude.{◌≡◌, false, Some}
use Rattle.std.proofs.Math.Path.{refl, sym, ap, subst}
use Rattle.std.proofs.Common.{◌∙◌}
use Rattle.std.proofs.Math.Bool.{true}
use Prim.Native.Nat.{ℕ, zero, suc, ◌+◌, ◌≤◌, ◌<◌, ◌^◌}
use native.Mathlib.Omega.{arith}
use Rattle.notation.specs.Choice.{pick}
use Rattle.notation.proofs.Facts.Tests.{clash, by_test, pick_cases}
use Rattle.outcome.specs.declared.NonHaltProof.{NonHaltProof}
use Rattle.outcome.specs.declared.Outcome.{Outcome}
use Rattle.outcome.specs.declared.Outcome.TheVariants.{NeverHalts, Stopped}
use Rattle.machine.specs.declared.Machine.{Machine}
use Rattle.machine.specs.declared.Action.{Action}
use Rattle.table_machine.specs.TableMachine.{Config, entry, run, Halted, halts}
use Rattle.table_machine.specs.Tables.{TableOf}
use Rattle.table_machine.proofs.Facts.Run.{not_defined, step-act}
use Rattle.table_machine.proofs.Facts.Table.{accepted_table}
use Rattle.run_checks.specs.declared.inner.look.Look.{Look}
use Rattle.sim.specs.Model.Engine.{Task, task, Conf, End, end, on_look, matches, halted_end, never_end, fuel_end, full_end, stopped_end, roomy_of, step_of, run_with, run_of}
use Rattle.sim_refines.specs.Meaning.{EngineFits}
use Rattle.sim_refines.specs.Statement.{table_in, held_by, after, Judged, Unproved, has_rule, Sees, no_entry, loops, goes_on, Kept, Went, Answers, verdict, halted, spent, stopped, full, Refines, PlainRefines}
use Rattle.sim_refines.proofs.Facts.Step.{step_config, step_keeps}
use Rattle.sim_refines.proofs.Facts.Look.{look_sees}

-- ---- what two changes in a row keep

pub kept_none : (m : Machine) (σ : Conf) → EngineFits m σ → Kept m σ σ
kept_none m σ f = record {
  fits = f;
  same_length0 = refl;
  same_length1 = refl;
  same_length2 = refl;
  left1 = λ h. refl;
  left2 = λ h. refl;
}

kept_both : (m : Machine) (σ τ e : Conf) → Kept m σ τ → Kept m τ e → Kept m σ e
kept_both m σ τ e p q = record {
  fits = q.fits;
  same_length0 = q.same_length0 ∙ p.same_length0;
  same_length1 = q.same_length1 ∙ p.same_length1;
  same_length2 = q.same_length2 ∙ p.same_length2;
  left1 = λ h. q.left1 h ∙ p.left1 h;
  left2 = λ h. q.left2 h ∙ p.left2 h;
}

-- ---- a run that makes no step

stays : (k : Task) (σ : Conf) → EngineFits k.machine σ → Went k 0 σ σ
unfolding run
stays k σ f = record {
  holds = refl;
  counted = omega arith;
  kept = kept_none k.machine σ f;
  running = λ j h. absurd (omega arith);
  unproved = λ j h. absurd (omega arith);
  unmatched = λ j h. absurd (omega arith);
}

module _ (k : Task) (fuel : ℕ) (σ : Conf) (f : EngineFits k.machine σ) where
  ends_here : {o : Outcome} → Answers k fuel 0 σ σ o → Refines k fuel σ (end σ o)
  ends_here a = record { made = 0; within = omega arith; went = stays k σ f; answers = a; stops = λ j h. absurd (omega arith) }

  halts_here : Halted (table_in k) (held_by k σ) → Refines k fuel σ (halted_end σ)
  halts_here h = ends_here (by_test k.proves
      (λ t. verdict _ t (halts h) (λ n e. let z : ◌≡◌ {A = ℕ} 0 1 = cc in absurd (omega arith)))
      (λ t. halted t h))

  loops_here : (p : NonHaltProof) → k.proves ≡ true → Judged k (held_by k σ) (NeverHalts σ.sim.steps p) → Refines k fuel σ (never_end σ p)
  loops_here p t v = ends_here (verdict _ t v (λ n e. let z : ◌≡◌ {A = ℕ} 0 1 = cc in absurd (omega arith)))

  module _ (a : Action) (reads : entry (table_in k) (held_by k σ) ≡ Some a) (u : Unproved k (held_by k σ)) where
    spent_here : 0 ≡ fuel → Refines k fuel σ (fuel_end σ)
    spent_here z = ends_here (by_test k.proves (λ t. verdict _ t (u t) (λ n e. z)) (λ t. spent t (λ h. not_defined _ a h reads) z))

    full_here : 0 < fuel → roomy_of σ a ≡ false → Refines k fuel σ (full_end σ)
    full_here l r = ends_here (full a l reads u r)

-- ---- a step, and a run from there

module _ (k : Task) (σ : Conf) (f : EngineFits k.machine σ) (table : TableOf k.machine (table_in k)) (small : σ.sim.steps + 1 ≤ 2 ^ 62)
    (a : Action) (reads : entry (table_in k) (held_by k σ) ≡ Some a) (u : Unproved k (held_by k σ)) (roomy : roomy_of σ a ≡ true) where
  step_kept : Kept k.machine σ (step_of σ a)
  step_kept = step_keeps k.machine k.table σ f table a reads roomy small

  step_counted : (step_of σ a).sim.steps ≡ σ.sim.steps + 1
  unfolding step_of
  step_counted = refl

  -- j steps after the step are j + 1 steps
  later : (j : ℕ) → after k j (step_of σ a) ≡ after k (suc j) σ
  unfolding run
  later j = ap (run (table_in k) j) (step_config k.machine k.table σ f table a reads roomy ∙ sym (step-act (table_in k) (held_by k σ) a reads))

  -- what holds of the first of n configurations, and of those after the step, holds of all
  all_along : (P : Config → Type 0) (n : ℕ) → (0 < n → P (held_by k σ)) → ((j : ℕ) → suc j < n → P (after k j (step_of σ a))) → (j : ℕ) → j < n → P (after k j σ)
  unfolding run
  all_along P n h r zero l = h l
  all_along P n h r (suc j) l = subst P (later j) (r j l)

  goes_there : (made : ℕ) (e : Conf) → (0 < made → matches k.rule σ.sim.state ≡ false) → Went k made (step_of σ a) e → Went k (suc made) σ e
  goes_there made e q w = record {
    holds = w.holds ∙ later made;
    counted = omega (arith, step_counted);
    kept = kept_both k.machine σ (step_of σ a) e step_kept w.kept;
    running = all_along (λ c. ¬ (Halted (table_in k) c)) (suc made) (λ l h. not_defined _ a h reads) (λ j l. w.running j (omega arith));
    unproved = all_along (Unproved k) (suc made) (λ l. u) (λ j l. w.unproved j (omega arith));
    unmatched = λ j l. all_along (λ c. has_rule k c ≡ false) made q w.unmatched j (omega arith);
  }

  -- "stops after the matching step"
  stops_there : (fuel : ℕ) → matches k.rule σ.sim.state ≡ true → Refines k (suc fuel) σ (stopped_end (step_of σ a))
  unfolding run
  stops_there fuel t = record {
    made = 1;
    within = omega arith;
    went = goes_there 0 (step_of σ a) (λ l. absurd (omega arith)) (stays k (step_of σ a) step_kept.fits);
    answers = stopped 0 refl t;
    stops = λ j h l. refl;
  }

  answers_there : {fuel made : ℕ} {e : Conf} {o : Outcome} → Answers k fuel made (step_of σ a) e o → Answers k (suc fuel) (suc made) σ e o
  answers_there (verdict o t v g) = verdict o t v (λ n h. ap suc (g n h))
  answers_there (halted t h) = halted t h
  answers_there (spent t h q) = spent t h (ap suc q)
  answers_there (stopped j q l) = stopped (suc j) (ap suc q) (subst (λ c. has_rule k c ≡ true) (later j) l)
  answers_there (full b l h v r) = full b (omega arith) h v r

  runs_on : (fuel : ℕ) (e : End) → matches k.rule σ.sim.state ≡ false → Refines k fuel (step_of σ a) e → Refines k (suc fuel) σ e
  unfolding run
  runs_on fuel e q r = record {
    made = suc r.made;
    within = omega arith;
    went = goes_there r.made e.at (λ l. q) r.went;
    answers = answers_there r.answers;
    stops = last;
  }
    where
      last : (j : ℕ) → suc r.made ≡ suc j → has_rule k (after k j σ) ≡ true → e.outcome ≡ Stopped e.at.sim.steps
      last zero h l = absurd (clash l q)
      last (suc j) h l = r.stops j (omega arith) (subst (λ c. has_rule k c ≡ true) (sym (later j)) l)

-- ---- the run

module _ (k : Task) (table : TableOf k.machine (table_in k)) where
  run_refines : (fuel : ℕ) (σ : Conf) → EngineFits k.machine σ → σ.sim.steps + fuel ≤ 2 ^ 62 → Refines k fuel σ (run_of k fuel σ)
  unfolding run_of run_with
  run_refines zero σ f small = by (look_sees k σ f)
    where
      by : {x : Look} → Sees k (held_by k σ) x → Refines k 0 σ (on_look x (halted_end σ) (never_end σ) (λ a. fuel_end σ))
      by (no_entry h) = halts_here k 0 σ f h
      by (loops p t v) = loops_here k 0 σ f p t v
      by (goes_on a e u) = spent_here k 0 σ f a e u refl
  run_refines (suc fuel) σ f small = by (λ a. run_refines fuel (step_of σ a)) (look_sees k σ f)
    where
      here : σ.sim.steps + 1 ≤ 2 ^ 62
      here = omega arith

      by : ((a : Action) → EngineFits k.machine (step_of σ a) → (step_of σ a).sim.steps + fuel ≤ 2 ^ 62 → Refines k fuel (step_of σ a) (run_of k fuel (step_of σ a)))
          → {x : Look} → Sees k (held_by k σ) x
          → Refines k (suc fuel) σ
          (on_look x (halted_end σ) (never_end σ)
          (λ a. pick (roomy_of σ a) (pick (matches k.rule σ.sim.state) (stopped_end (step_of σ a)) (run_of k fuel (step_of σ a))) (full_end σ)))
      by on (no_entry h) = halts_here k (suc fuel) σ f h
      by on (loops p t v) = loops_here k (suc fuel) σ f p t v
      by on (goes_on a e u) = pick_cases (roomy_of σ a) _ _ (Refines k (suc fuel) σ)
          (λ r. pick_cases (matches k.rule σ.sim.state) _ _ (Refines k (suc fuel) σ)
          (λ t. stops_there k σ f table here a e u r fuel t)
          (λ t. runs_on k σ f table here a e u r fuel _ t
          (on a (step_kept k σ f table here a e u r).fits (omega (arith, step_counted k σ f table here a e u r)))))
          (λ r. full_here k (suc fuel) σ f a e u (omega arith) r)

pub plain_refines : PlainRefines
plain_refines m s bytes accepted proves rule = run_refines (task m s proves rule) (accepted_table m s bytes accepted)
