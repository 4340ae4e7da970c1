-- The decision before a step of a run, and what the functions of a run may assume. Definitions only.
use Rattle.outcome.specs.declared.Outcome.{Outcome}
use Rattle.std.specs.declared.ops.ControlFlow.{ControlFlow}
use Rattle.std.specs.Prelude.{◌≡◌, List, ℕ, ◌+◌, ◌≤◌, ◌<◌, Bool, true, length}
use Rattle.notation.specs.Limits.{steps_most, raised_zero}
use Rattle.machine.specs.declared.Machine.{Machine}
use Rattle.machine.specs.declared.Action.{Action}
use Rattle.tape.specs.Fits.{TapeSafe}
use Rattle.sim.specs.declared.Simulator.{Simulator}
use Rattle.run_checks.specs.Model.Look.{rooms_of, choice_at, AtOk}
use Rattle.sim.specs.Model.Engine.{Conf, tape0, tape1, tape2}

-- the tests halted, never, fuel, space: the run ends here, or follows an entry
abbrev pub choice_of : Machine → List ℕ → (proves : Bool) → (left : ℕ) → Conf → ControlFlow Outcome Action
choice_of m s p left σ = choice_at m s p left σ.sim.steps σ.sim.state (tape0 σ) (tape1 σ) (tape2 σ)

-- ---- what a look, a step and a run may assume

abbrev pub LookOk : Machine → (stride : ℕ) → Simulator → (c0 c1 c2 : List ℕ) → Type 0
LookOk m stride v c0 c1 c2 = AtOk m stride v.t0 v.t1 v.t2 c0 c1 c2

pub record StepOk (v : Simulator) (c0 c1 c2 : List ℕ) (a : Action) : Type 0 where
  pub safe0 : TapeSafe v.t0 c0
  pub safe1 : TapeSafe v.t1 c1
  pub safe2 : TapeSafe v.t2 c2
  pub steps_in : v.steps < raised_zero
  pub rooms : rooms_of v.t0 v.t1 v.t2 (length c0) (length c1) (length c2) a ≡ true

pub record RunOk (m : Machine) (stride : ℕ) (v : Simulator) (c0 c1 c2 : List ℕ) (fuel : ℕ) : Type 0 where
  pub ok : LookOk m stride v c0 c1 c2
  pub steps_in : v.steps + fuel ≤ steps_most
