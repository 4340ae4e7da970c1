-- The configuration, the places and the fuel determine a run; a split of the fuel changes macro steps and what lies past the live runs only. Assumes nothing.
use Rattle.std.specs.Prelude.{◌≡◌, refl, true, false, ℕ, ◌+◌, ◌≤◌, ◌<◌, ◌^◌, Some}
use Rattle.std.proofs.Common.{sym, ap, ◌∙◌, subst, arith}
use Rattle.std.proofs.Math.Decide.{dec_lt}
use Rattle.notation.proofs.Facts.Tests.{clash}
use Rattle.outcome.specs.declared.Outcome.{Outcome}
use Rattle.outcome.specs.declared.Outcome.TheVariants.{OutOfFuel, Stopped, Full}
use Rattle.table_machine.specs.TableMachine.{Config, entry, Halted, halted_at, out_of_fuel_at}
use Rattle.table_machine.specs.Tables.{TableOf}
use Rattle.table_machine.proofs.Facts.Run.{not_defined}
use Rattle.table_machine.proofs.Facts.Verdict.{verdict_unique}
use Rattle.run_rules.specs.Model.Task.{Task}
use Rattle.rle.specs.Model.Engine.{Conf, End, run_of}
use Rattle.rle_refines.specs.Meaning.{config_of, ChainFits, Alike}
use Rattle.rle_refines.specs.Statement.{table_in, after, Judged, Unproved, has_rule, is_full, Went, Answers, verdict, halted, spent, stopped, full, Refines}
use Rattle.rle_refines.proofs.Facts.Canonical.{FullIn, full_exact, full_same, one_value}
use Rattle.rle_refines.proofs.Facts.Refinement.{refines_later, run_refines}

-- ---- one answer

-- where the never test proves nothing, the verdict is out of fuel, and all the fuel is used
unproved_spent : (k : Task) (c : Config) (o : Outcome) {made fuel : ℕ} → k.proves ≡ true → Judged k c o → ((n : ℕ) → o ≡ OutOfFuel n → made ≡ fuel) → Unproved k c → made ≡ fuel
unproved_spent k c o t v g u = g _ (verdict_unique _ _ _ _ _ v (u t))

module _ (k : Task) (fuel made : ℕ) (e : Conf) where
  one_answer : {o p : Outcome} → Answers k fuel made e o → Answers k fuel made e p → o ≡ p
  one_answer (verdict o t v g) (verdict p s w h) = verdict_unique _ _ _ _ _ v w
  one_answer (verdict o t v g) (halted s h) = absurd (clash t s)
  one_answer (verdict o t v g) (spent s h q) = absurd (clash t s)
  one_answer (verdict o t v g) (stopped a l h u q) = absurd (omega (arith, unproved_spent k (config_of e) o t v g u))
  one_answer (verdict o t v g) (full a l h u q x) = absurd (omega (arith, unproved_spent k (config_of e) o t v g u))
  one_answer (halted t h) (verdict p s w g) = absurd (clash s t)
  one_answer (halted t h) (halted s g) = refl
  one_answer (halted t h) (spent s g q) = absurd (g h)
  one_answer (halted t h) (stopped a l g u q) = absurd (not_defined _ a h g)
  one_answer (halted t h) (full a l g u q x) = absurd (not_defined _ a h g)
  one_answer (spent t h q) (verdict p s w g) = absurd (clash s t)
  one_answer (spent t h q) (halted s g) = absurd (h g)
  one_answer (spent t h q) (spent s g r) = refl
  one_answer (spent t h q) (stopped a l g u r) = absurd (omega arith)
  one_answer (spent t h q) (full a l g u r x) = absurd (omega arith)
  one_answer (stopped a l h u q) (verdict p s w g) = absurd (omega (arith, unproved_spent k (config_of e) p s w g u))
  one_answer (stopped a l h u q) (halted s g) = absurd (not_defined _ a g h)
  one_answer (stopped a l h u q) (spent s g r) = absurd (omega arith)
  one_answer (stopped a l h u q) (stopped b m g v r) = refl
  one_answer (stopped a l h u q) (full b m g v r x) = absurd (clash q r)
  one_answer (full a l h u q x) (verdict p s w g) = absurd (omega (arith, unproved_spent k (config_of e) p s w g u))
  one_answer (full a l h u q x) (halted s g) = absurd (not_defined _ a g h)
  one_answer (full a l h u q x) (spent s g r) = absurd (omega arith)
  one_answer (full a l h u q x) (stopped b m g v r) = absurd (clash r q)
  one_answer (full a l h u q x) (full b m g v r y) = refl

-- the answer depends on the configuration and the places alone
module _ (k : Task) (fuel made : ℕ) (e τ : Conf) (fits : ChainFits k.machine e) (other : ChainFits k.machine τ) (same : config_of e ≡ config_of τ)
    (places : FullIn k.machine (table_in k) e (config_of e) → FullIn k.machine (table_in k) τ (config_of e)) where
  answers_same : {o : Outcome} → Answers k fuel made e o → Answers k fuel made τ o
  answers_same (verdict o t v g) = verdict o t (subst (λ c. Judged k c o) same v) g
  answers_same (halted t h) = subst (Answers k fuel made τ) (ap halted_at (sym same)) (halted t (subst (Halted (table_in k)) same h))
  answers_same (spent t h q) = subst (Answers k fuel made τ) (ap out_of_fuel_at (sym same)) (spent t (λ g. h (subst (Halted (table_in k)) (sym same) g)) q)
  answers_same (stopped a l h u q) = subst (Answers k fuel made τ) (ap (λ (c : Config). Stopped c.steps) (sym same))
      (stopped a l (subst (λ c. entry (table_in k) c ≡ Some a) same h) (subst (Unproved k) same u) (subst (λ c. has_rule k c ≡ true) same q))
  answers_same (full a l h u q g) =
      let there : entry (table_in k) (config_of τ) ≡ Some a = subst (λ c. entry (table_in k) c ≡ Some a) same h in
      let lack : is_full τ a ≡ true = (full_exact k.machine (table_in k) τ other a there).1
      (subst (FullIn k.machine (table_in k) τ) same (places ((full_exact k.machine (table_in k) e fits a h).0 g))) in
      subst (Answers k fuel made τ) (ap (λ (c : Config). Full c.steps) (sym same))
      (full a l there (subst (Unproved k) same u) (subst (λ c. has_rule k c ≡ false) same q) lack)

-- ---- one run

module _ (k : Task) (fuel : ℕ) (σ : Conf) where
  -- neither run ends before the other
  no_earlier : (x y : End) (r : Refines k fuel σ x) (s : Refines k fuel σ y) → ¬ (r.made < s.made)
  no_earlier x y r s l = by r.answers
    where
      here : config_of x.at ≡ after k r.made σ
      here = r.went.holds

      by : {o : Outcome} → Answers k fuel r.made x.at o → ⊥
      by (verdict o t v g) = omega (arith, unproved_spent k (after k r.made σ) o t (subst (λ c. Judged k c o) here v) g (s.went.unproved r.made l), s.within)
      by (halted t h) = s.went.running r.made l (subst (Halted (table_in k)) here h)
      by (spent t h q) = omega (arith, s.within)
      by (stopped a m h u q) = clash (subst (λ c. has_rule k c ≡ true) here q) (s.went.unmatched r.made l)
      by (full a m h u q g) = s.went.roomy r.made l
          (subst (FullIn k.machine (table_in k) σ) here
          ((full_same k.machine (table_in k) σ x.at r.went.kept (config_of x.at)).1 ((full_exact k.machine (table_in k) x.at r.went.kept.fits a h).0 g)))

  module _ (x y : End) (r : Refines k fuel σ x) (s : Refines k fuel σ y) where
    same_made : r.made ≡ s.made
    same_made = by (dec_lt r.made s.made) (dec_lt s.made r.made)
      where
        by : Dec (r.made < s.made) → Dec (s.made < r.made) → r.made ≡ s.made
        by (yes l) d = absurd (no_earlier x y r s l)
        by (no l) (yes g) = absurd (no_earlier y x s r g)
        by (no l) (no g) = omega arith

    same_config : config_of x.at ≡ config_of y.at
    same_config = r.went.holds ∙ ap (λ n. after k n σ) same_made ∙ sym s.went.holds

    -- the answers are the same, and the engine values are alike
    pub one_run : (x.outcome ≡ y.outcome) × Alike x.at y.at
    one_run = (
      one_answer k fuel s.made y.at
          (answers_same k fuel s.made x.at y.at r.went.kept.fits s.went.kept.fits same_config
          (λ g. (full_same k.machine (table_in k) σ y.at s.went.kept (config_of x.at)).0 ((full_same k.machine (table_in k) σ x.at r.went.kept (config_of x.at)).1 g))
          (subst (λ n. Answers k fuel n x.at x.outcome) same_made r.answers))
          s.answers,
      one_value k.machine x.at y.at r.went.kept.fits s.went.kept.fits same_config,
    )

-- ---- two runs in a row

out_of_fuel : {k : Task} {fuel made n : ℕ} {e : Conf} → Answers k fuel made e (OutOfFuel n) → made ≡ fuel
out_of_fuel (verdict _ t v g) = g _ refl
out_of_fuel (spent t h q) = q

module _ (k : Task) (table : TableOf k.machine (table_in k)) (single : k.machine.tapes ≡ 1) (a b : ℕ) (σ : Conf) (f : ChainFits k.machine σ)
    (small : σ.sim.steps + (a + b) ≤ 2 ^ 62) (n : ℕ) (spent-first : (run_of k a σ).outcome ≡ OutOfFuel n) where
  abbrev first : Conf
  first = (run_of k a σ).at

  refined : Refines k a σ (run_of k a σ)
  refined = run_refines k table single a σ f (omega arith)

  all_made : refined.made ≡ a
  all_made = out_of_fuel (subst (Answers k a refined.made first) spent-first refined.answers)

  went : Went k a σ first
  went = subst (λ j. Went k j σ first) all_made refined.went

  second : Refines k (a + b) σ (run_of k b first)
  second = refines_later k a b σ first (run_of k b first) went (run_refines k table single b first went.kept.fits (omega (arith, went.counted)))

  -- a run with fuel a and then b ends like one with fuel a + b
  pub run_twice : ((run_of k b first).outcome ≡ (run_of k (a + b) σ).outcome) × Alike (run_of k b first).at (run_of k (a + b) σ).at
  run_twice = one_run k (a + b) σ (run_of k b first) (run_of k (a + b) σ) second (run_refines k table single (a + b) σ f small)
