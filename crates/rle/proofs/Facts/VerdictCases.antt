-- The verdict without a run: a fact for each return. Assumes nothing.
use Rattle.rle_macro.specs.declared.inner.macro_step.Step.{Step}
use Rattle.std.specs.declared.ops.ControlFlow.{ControlFlow}
use Rattle.std.specs.declared.ops.ControlFlow.TheVariants.{Break}
use Rattle.std.specs.Prelude.{◌≡◌, refl, Bool, true, false, List, ℕ, None, Option, Some}
use Rattle.std.proofs.Common.{sym, ap}
use Rattle.outcome.specs.declared.NonHaltProof.{NonHaltProof}
use Rattle.outcome.specs.declared.Outcome.{Outcome}
use Rattle.outcome.specs.declared.Outcome.TheVariants.{Halted, OutOfFuel, NeverHalts}
use Rattle.machine.specs.declared.Machine.{Machine}
use Rattle.machine.specs.declared.Action.{Action}
use Rattle.run_checks.specs.Model.Look.{entry_of}
use Rattle.run_rules.specs.Model.Task.{Task, task}
use Rattle.rle_macro.specs.Model.MacroStep.{proof_of}
use Rattle.rle.specs.declared.ChainSim.{ChainSim}
use Rattle.rle.specs.Model.Engine.{conf, loops_of, turn_of, plan_by, plan_of}
use Rattle.rle.specs.Invariants.{Judged}
use Rattle.rle.proofs.Facts.EngineCases.{fuel_none, asked_loops, asked_none, turn_halts, turn_never, turn_goes}
use Rattle.rle.proofs.Facts.Run.{run_ends}

module _ (m : Machine) (s : List ℕ) (v : ChainSim) where
  abbrev tested : Task
  tested = task m s true None

  judged : (o : Outcome) → Break o ≡ turn_of tested 0 v → Judged m s v o
  unfolding plan_of
  judged o e = record { same = λ ls ll rs rl. run_ends tested 0 (conf v ls ll rs rl) o (ap (λ (x : ControlFlow Outcome Step). plan_by x 0 (conf v ls ll rs rl)) (sym e)) }

  module _ (e : Option Action) (ep : e ≡ entry_of m s v.state v.tape.cur 0 0) where
    pub verdict_halts : e ≡ None → Judged m s v (Halted v.steps v.state)
    verdict_halts z = judged _ (turn_halts tested 0 v e ep z)

    module _ (a : Action) (z : e ≡ Some a) (b : Bool) (bp : b ≡ loops_of v.state a v.tape.cur v.tape.left v.tape.right) where
      pub verdict_never : b ≡ true → (x : NonHaltProof) → x ≡ proof_of v.state a.dir0 → Judged m s v (NeverHalts v.steps x)
      verdict_never y x q = judged _ (turn_never tested 0 v e ep a z b bp true (asked_loops b true y) refl x q)

      pub verdict_spent : b ≡ false → Judged m s v (OutOfFuel v.steps)
      verdict_spent y = judged _ (turn_goes tested 0 v e ep a z b bp false (asked_none b true y) refl _ (fuel_none b None a 0 v refl))
