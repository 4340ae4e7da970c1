-- "a `from` state, one not below n never matching": with such a rule the run answers as without a rule. Assumes nothing.
use Rattle.outcome.specs.declared.Refusal.{Refusal}
use Rattle.machine.specs.declared.Action.{Action}
use Rattle.std.specs.Prelude.{◌≡◌, Bool, List, Err, None, Ok, Option, Result, Some, ⊤}
use Rattle.std.proofs.Math.Path.{refl, ap}
use Rattle.std.proofs.Common.{◌∙◌, arith}
use Rattle.std.proofs.Math.Bool.{true}
use Prim.Native.Nat.{ℕ, zero, suc, ◌+◌, ◌-◌, ◌≤◌, ◌^◌}
use borrow.Author.Tests.{ne_eqb}
use Rattle.symbol.specs.declared.State.{State}
use Rattle.machine.specs.declared.Machine.{Machine}
use Rattle.table_laws.specs.WellFormed.{Bytes}
use Rattle.table_machine.specs.Tables.{table_of, TableOf}
use Rattle.table_machine.proofs.Facts.Table.{accepted_table}
use Rattle.run_checks.specs.Model.Look.{entry_of}
use Rattle.run_rules.specs.Model.Task.{Task, task, matches}
use Rattle.rle.specs.Model.Engine.{Conf, macro_of, end, on_plan, fueled_of, proved_of, turn_on, turn_of, plan_by, plan_of, run_within, run_of, Macro, Plan}
use Rattle.rle.specs.Fits.{run_check}
use Rattle.rle.specs.Model.Operations.{run_on, run_answer}
use Rattle.rle_refines.specs.Meaning.{ChainFits}
use Rattle.rle_refines.proofs.Facts.Plan as P
use Rattle.rle_refines.proofs.Facts.Plan.{Plans, plan_right}
use Rattle.rle_refines.proofs.Facts.MacroStep.{macro}
use Rattle.rle_refines.proofs.Facts.Refinement.{macro_went}
use Rattle.rle_refines.proofs.Facts.Operations.{run_says}

-- ---- the run: every engine value on its way fits, so that its state is below n

module _ (m : Machine) (s : List ℕ) (table : TableOf m (table_of m s)) (single : m.tapes ≡ 1) (proves : Bool) (p : State) (off : m.states ≤ p.0) where
  abbrev ruled : Task
  ruled = task m s proves (Some p)

  abbrev free : Task
  free = task m s proves None

  unmatched : (σ : Conf) → ChainFits m σ → matches (Some p) σ.sim.state ≡ matches None σ.sim.state
  unfolding matches
  unmatched σ f = ne_eqb p.0 σ.sim.state.0 (λ e. omega (arith, f.state_in_holds))

  same_plan : (fuel : ℕ) (σ : Conf) → ChainFits m σ → plan_of ruled fuel σ ≡ plan_of free fuel σ
  unfolding plan_of turn_of turn_on proved_of fueled_of
  same_plan fuel σ f = by (entry_of m s σ.sim.state σ.sim.tape.cur 0 0)
    where
      by : (x : Option Action) → plan_by (turn_on x proves (Some p) fuel σ.sim) fuel σ ≡ plan_by (turn_on x proves None fuel σ.sim) fuel σ
      by None = refl
      by (Some a) = rw (unmatched σ f)

  same_within : (most fuel : ℕ) (σ : Conf) → ChainFits m σ → σ.sim.steps + fuel ≤ 2 ^ 62 → run_within ruled most fuel σ ≡ run_within free most fuel σ
  unfolding run_within
  same_within zero fuel σ f small = refl
  same_within (suc most) fuel σ f small =
      ap (λ (x : Plan). on_plan x (end σ) (λ j. run_within ruled most (fuel - j.repeats) (macro_of j σ))) (same_plan fuel σ f)
      ∙ by (λ j. same_within most (fuel - j.repeats) (macro_of j σ)) (plan_right free table single fuel σ f)
    where
      by : ((j : Macro) → ChainFits m (macro_of j σ) → (macro_of j σ).sim.steps + (fuel - j.repeats) ≤ 2 ^ 62
          → run_within ruled most (fuel - j.repeats) (macro_of j σ) ≡ run_within free most (fuel - j.repeats) (macro_of j σ))
          → {x : Plan} → Plans free fuel σ x
          → on_plan x (end σ) (λ j. run_within ruled most (fuel - j.repeats) (macro_of j σ)) ≡ on_plan x (end σ) (λ j. run_within free most (fuel - j.repeats) (macro_of j σ))
      by on (P.no_entry h) = refl
      by on (P.loops q t v) = refl
      by on (P.spent a e u z) = refl
      by on (P.stops a e u g r) = refl
      by on (P.lacks_place a e u g r h) = refl
      by on (P.macro_steps a zero e u g h r) = absurd (omega (arith, r.some))
      by on (P.macro_steps a (suc j) e u g h r) =
          let w = macro_went free table single σ f a e u g h fuel j r small in
          on (macro a (suc j)) w.kept.fits (omega (arith, w.counted, r.within))

  same_run : (fuel : ℕ) (σ : Conf) → ChainFits m σ → σ.sim.steps + fuel ≤ 2 ^ 62 → run_of ruled fuel σ ≡ run_of free fuel σ
  unfolding run_of
  same_run fuel = same_within (suc fuel) fuel

-- ---- the operation

module _ (m : Machine) (s : List ℕ) (bytes : Bytes s) (p : State) (fuel : ℕ) (σ : Conf) (off : m.states ≤ p.0) where
  pub run_off : run_answer m s (Some p) fuel σ ≡ run_answer m s None fuel σ
  unfolding run_answer
  run_off = by (run_check m s fuel σ) refl
    where
      by : (c : Result ⊤ Refusal) → run_check m s fuel σ ≡ c → run_on c σ (run_of (task m s true (Some p)) fuel σ) ≡ run_on c σ (run_of (task m s true None) fuel σ)
      by (Err why) e = refl
      by (Ok tt) e =
          let x = run_says m s σ fuel e in
          ap (run_on (Ok tt) σ) (same_run m s (accepted_table m s bytes x.0.table) x.0.single true p off fuel σ x.0.fits x.1)
