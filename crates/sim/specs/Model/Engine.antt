-- The model of the plain engine over its lent cells: a configuration, the look before a step, the step, the run. Definitions only.
use Rattle.std.specs.Prelude.{Bool, false, List, [], ◌∷◌, ℕ, ◌+◌, length, get_or}
use Rattle.notation.specs.Choice.{pick}
use Rattle.outcome.specs.declared.NonHaltProof.{NonHaltProof}
use Rattle.outcome.specs.declared.Outcome.{Outcome}
use Rattle.outcome.specs.declared.Outcome.TheVariants.{Halted, OutOfFuel, NeverHalts, Stopped, Full}
use Rattle.outcome.specs.Numbers.{outcome_number}
use Rattle.outcome.specs.declared.Status.{Status}
use Rattle.outcome.specs.declared.Status.TheVariants as Step
use Rattle.machine.specs.declared.Machine.{Machine}
use Rattle.machine.specs.declared.Action.{Action}
use Rattle.tape.specs.Model.Moves.{Held, held, act_of}
use Rattle.sim.specs.declared.Simulator.{Simulator}
use Rattle.run_checks.specs.declared.inner.look.Look.{Look}
use Rattle.run_checks.specs.Model.Look.{look_at}
pub use Rattle.run_checks.specs.Model.Look.{on_look}
unfoldable pub use Rattle.run_checks.specs.Model.Look.{stays, stays_all, loop_of, judge_of, look_on, entry_of, rooms_of}
pub use Rattle.run_rules.specs.Model.Task.{Task, task}
unfoldable pub use Rattle.run_rules.specs.Model.Task.{matches}
pub use Rattle.run_rules.specs.Model.Run.{Steps}
unfoldable pub use Rattle.run_rules.specs.Model.Run.{run_with}

-- ---- the engine's value with its three buffers

pub record Conf : Type 0 where
  pub sim : Simulator
  pub c0 : List ℕ
  pub c1 : List ℕ
  pub c2 : List ℕ

abbrev pub conf : Simulator → List ℕ → List ℕ → List ℕ → Conf
conf v c0 c1 c2 = record { sim = v; c0 = c0; c1 = c1; c2 = c2 }

abbrev pub tape0 : Conf → Held
tape0 σ = held σ.sim.t0 σ.c0

abbrev pub tape1 : Conf → Held
tape1 σ = held σ.sim.t1 σ.c1

abbrev pub tape2 : Conf → Held
tape2 σ = held σ.sim.t2 σ.c2

-- ---- the look before a step: no entry; else, where the never test is made, a proved loop; else the entry

unfoldable pub look_with : Machine → List ℕ → (proves : Bool) → Conf → Look
look_with m s p σ = look_at m s p σ.sim.state (tape0 σ) (tape1 σ) (tape2 σ)

abbrev pub look_of : Task → Conf → Look
look_of k σ = look_with k.machine k.table k.proves σ

-- ---- space, tested for all tapes before anything is written

abbrev pub roomy_of : Conf → Action → Bool
roomy_of σ a = rooms_of σ.sim.t0 σ.sim.t1 σ.sim.t2 (length σ.c0) (length σ.c1) (length σ.c2) a

-- ---- a step

unfoldable pub step_of : Conf → Action → Conf
step_of σ a =
    let h0 : Held = act_of (tape0 σ) a.write0.0 a.dir0 in
    let h1 : Held = act_of (tape1 σ) a.write1.0 a.dir1 in
    let h2 : Held = act_of (tape2 σ) a.write2.0 a.dir2 in
    conf
    (record {
      state = a.next;
      steps = σ.sim.steps + 1;
      t0 = h0.tape;
      t1 = h1.tape;
      t2 = h2.tape;
    })
    h0.cells h1.cells h2.cells

-- ---- a run: "halted, never, fuel, space, in that order, before each step"; the stop rule after it (run_rules/specs/Model/Run.antt has the order)

pub record End : Type 0 where
  pub at : Conf
  pub outcome : Outcome

abbrev pub end : Conf → Outcome → End
end σ o = record { at = σ; outcome = o }

abbrev pub halted_end : Conf → End
halted_end σ = end σ (Halted σ.sim.steps σ.sim.state)

abbrev pub never_end : Conf → NonHaltProof → End
never_end σ p = end σ (NeverHalts σ.sim.steps p)

abbrev pub fuel_end : Conf → End
fuel_end σ = end σ (OutOfFuel σ.sim.steps)

abbrev pub full_end : Conf → End
full_end σ = end σ (Full σ.sim.steps)

abbrev pub stopped_end : Conf → End
stopped_end σ = end σ (Stopped σ.sim.steps)

-- what a run reads of a configuration, and the step
abbrev pub steps_of : Task → Steps Conf
steps_of k = record {
  state = λ σ. σ.sim.state;
  steps = λ σ. σ.sim.steps;
  look = look_of k;
  roomy = roomy_of;
  stops = λ σ. matches k.rule σ.sim.state;
  step = step_of;
}

unfoldable pub run_of : Task → ℕ → Conf → End
run_of k f σ = run_with (steps_of k) end f σ

-- ---- one step, without the tests of never and fuel (without the never test no look gives never)

pub record Once : Type 0 where
  pub at : Conf
  pub status : Status

abbrev pub once : Conf → Status → Once
once σ s = record { at = σ; status = s }

unfoldable pub once_of : Machine → List ℕ → Conf → Once
once_of m s σ =
    on_look (look_with m s false σ) (once σ Step.Halted) (λ p. once σ Step.Halted)
    (λ a. pick (roomy_of σ a) (once (step_of σ a) Step.Running) (once σ Step.Full))

-- the same by a run that stops after the step: the step's status, by the number of the run's outcome (halted, out of fuel, never, stopped, full)
abbrev pub statuses : List Status
statuses = Step.Halted ∷ Step.Running ∷ Step.Halted ∷ Step.Running ∷ Step.Full ∷ []

abbrev pub status_of : Outcome → Status
status_of o = get_or statuses (outcome_number o) Step.Halted
