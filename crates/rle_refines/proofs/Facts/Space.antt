-- "A call ends for lack of space exactly when a step on its way is full by its engine's rule": for a run without the never test and the stop rule,
-- as the timeline makes it. Assumes nothing.
use Rattle.std.specs.Prelude.{◌≡◌, refl, ◌↔◌, false, ℕ, ◌+◌, ◌≤◌, ◌<◌, ◌^◌}
use Rattle.std.proofs.Common.{sym, ap, ◌∙◌, subst, arith}
use Rattle.std.proofs.Math.Decide.{dec_lt}
use Rattle.notation.proofs.Facts.Tests.{clash}
use Rattle.symbol.specs.declared.State.{State}
use Rattle.outcome.specs.declared.Outcome.{Outcome}
use Rattle.outcome.specs.declared.Outcome.TheVariants.{Full}
use Rattle.table_machine.specs.TableMachine.{Halted}
use Rattle.table_machine.specs.Tables.{TableOf}
use Rattle.table_machine.proofs.Facts.Run.{not_defined, run_past}
use Rattle.run_rules.specs.Model.Task.{Task, matches}
use Rattle.rle.specs.Model.Engine.{Conf, End, run_of}
use Rattle.rle_refines.specs.Meaning.{config_of, ChainFits}
use Rattle.rle_refines.specs.Statement.{table_in, after, FullAfter, FullWithin, Kept, Answers, verdict, halted, spent, stopped, full, Refines}
use Rattle.rle_refines.proofs.Facts.Canonical.{FullIn, full_exact, full_same}
use Rattle.rle_refines.proofs.Facts.Refinement.{run_refines}

module _ (k : Task) (quiet : k.proves ≡ false) (unruled : (q : State) → matches k.rule q ≡ false) (fuel : ℕ) (σ : Conf) where
  -- how such a run can end
  pub data Ends (e : End) : Type 0 where
    -- for lack of space
    lacks_space : (made : ℕ) → made < fuel → e.outcome ≡ Full e.at.sim.steps → config_of e.at ≡ after k made σ
        → ((j : ℕ) → j < made → ¬ (FullAfter k j σ)) → FullAfter k made σ → Ends e
    -- with all the steps made, or at the halt
    goes_through : ((n : ℕ) → ¬ (e.outcome ≡ Full n)) → config_of e.at ≡ after k fuel σ → ((j : ℕ) → j < fuel → ¬ (FullAfter k j σ)) → Ends e

  module _ (e : End) (r : Refines k fuel σ e) where
    abbrev τ : Conf
    τ = e.at

    kept : Kept k.machine σ e.at
    kept = r.went.kept

    -- a full step from where the run ended is full with the places of the start
    full_here : FullIn k.machine (table_in k) τ (config_of e.at) → FullAfter k r.made σ
    full_here g = subst (FullIn k.machine (table_in k) σ) r.went.holds
        ((full_same k.machine (table_in k) σ τ kept (config_of τ)).1 g)

    -- a halted configuration stays, and no step from it is full
    halted_stays : Halted (table_in k) (config_of e.at) → (j : ℕ) → r.made ≤ j → after k j σ ≡ after k r.made σ
    halted_stays h j l = run_past (table_in k) r.made j (config_of σ) l (subst (Halted (table_in k)) r.went.holds h)

    halted_through : Halted (table_in k) (config_of e.at) → ((n : ℕ) → ¬ (e.outcome ≡ Full n)) → Ends e
    halted_through h n = goes_through n (r.went.holds ∙ sym (halted_stays h fuel r.within)) (λ j l. by j (dec_lt j r.made))
      where
        by : (j : ℕ) → Dec (j < r.made) → ¬ (FullAfter k j σ)
        by j (yes l) = r.went.roomy j l
        by j (no l) = λ g. not_defined _ g.act (subst (Halted (table_in k)) (r.went.holds ∙ sym (halted_stays h j (omega arith))) h) g.has

    spent_through : r.made ≡ fuel → ((n : ℕ) → ¬ (e.outcome ≡ Full n)) → Ends e
    spent_through q n = goes_through n (r.went.holds ∙ ap (λ j. after k j σ) q) (λ j l. r.went.roomy j (omega arith))

    -- by cases of the answer
    ends_by : {o : Outcome} → e.outcome ≡ o → Answers k fuel r.made e.at o → Ends e
    ends_by q (verdict _ t v g) = absurd (clash t quiet)
    ends_by q (halted t h) = halted_through h (λ n p. let z : ◌≡◌ {A = ℕ} 0 1 = cc in omega arith)
    ends_by q (spent t h p) = spent_through p (λ n p. let z : ◌≡◌ {A = ℕ} 0 1 = cc in omega arith)
    ends_by q (stopped a l h u p) = absurd (clash p (unruled _))
    ends_by q (full a l h u p g) = lacks_space r.made l q r.went.holds r.went.roomy (full_here ((full_exact k.machine (table_in k) τ kept.fits a h).0 g))

  module _ (table : TableOf k.machine (table_in k)) (single : k.machine.tapes ≡ 1) (f : ChainFits k.machine σ) (small : σ.sim.steps + fuel ≤ 2 ^ 62) where
    refined : Refines k fuel σ (run_of k fuel σ)
    refined = run_refines k table single fuel σ f small

    pub run_ends_so : Ends (run_of k fuel σ)
    run_ends_so = ends_by (run_of k fuel σ) refined refl refined.answers

    pub full_iff : ((n : ℕ) × ((run_of k fuel σ).outcome ≡ Full n)) ↔ FullWithin k fuel σ
    full_iff = (to run_ends_so, back run_ends_so)
      where
        to : Ends (run_of k fuel σ) → (n : ℕ) × ((run_of k fuel σ).outcome ≡ Full n) → FullWithin k fuel σ
        to (lacks_space made l o h r g) p = record { at = made; within = l; is = g }
        to (goes_through n h g) p = absurd (n p.0 p.1)

        back : Ends (run_of k fuel σ) → FullWithin k fuel σ → (n : ℕ) × ((run_of k fuel σ).outcome ≡ Full n)
        back (lacks_space made l o h r g) p = ((run_of k fuel σ).at.sim.steps, o)
        back (goes_through n h g) p = absurd (g p.at p.within p.is)
