-- The first demand's claim about a run that ends for lack of space, and the plain engine's rule for a full step; `demands_second/Space` has the run-length engine's. Definitions only.
use Rattle.std.specs.Prelude.{◌≡◌, List, ℕ, ◌+◌, ◌<◌}
use Rattle.machine.specs.declared.Machine.{Machine}
use Rattle.table_machine.specs.TableMachine.{Table, Config, run}
use Rattle.sim.specs.Model.Engine.{Conf}
use Rattle.sim_timeline_laws.specs.Meaning.{mean_of, NoRoom}
use Rattle.demands_second.specs.Space.{GoesOn}

-- "Lack of space stops a run before the step that needs it, earlier steps kept": a run or a timeline's call that goes from the configuration `before` towards step
-- t, leaves `after` and answers Full n
pub record StopsFull (d : Table) (before after : Config) (t n : ℕ) (NextIsFull : Type 0) : Type 0 where
  pub made : ℕ
  -- step t is not reached
  pub within : before.steps + made < t
  -- n is the number of steps counted, and `after` is the table machine's configuration after the steps made
  pub counted : n ≡ before.steps + made
  pub steps : after.steps ≡ n
  pub reached : after ≡ run d made before
  -- the next step is full by the engine's rule
  pub next : NextIsFull

-- a run with this fuel. It tests for a proved loop before it tests for space, so it stops where there is an entry and no proved loop
pub record EndsFull (m : Machine) (d : Table) (before after : Config) (fuel n : ℕ) (NextIsFull : Type 0) : Type 0 where
  pub stops : StopsFull d before after (before.steps + fuel) n NextIsFull
  pub going : GoesOn m d after

-- ---- the plain engine: "Moving off either end doubles the length ..; full exactly when that passes the buffer, on any tape." `NoRoom` says this of the
-- engine's tapes.

abbrev pub PlainFull : Machine → List ℕ → Conf → Type 0
PlainFull m s σ = NoRoom m s (mean_of m σ)
