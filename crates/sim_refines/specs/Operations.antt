-- The claims about the plain engine's operations, over the models that the contracts of `run` and `step` cite. Definitions only.
use Rattle.symbol.specs.declared.State.{State}
use Rattle.std.specs.Prelude.{◌≡◌, true, false, List, ℕ, ◌<◌, Option, Some}
use Rattle.outcome.specs.declared.Outcome.{Outcome}
use Rattle.outcome.specs.declared.Status.{Status}
use Rattle.outcome.specs.declared.Status.TheVariants as Step
use Rattle.machine.specs.declared.Machine.{Machine}
use Rattle.machine.specs.declared.Action.{Action}
use Rattle.table_machine.specs.TableMachine.{entry, step, Halted}
use Rattle.table_machine.specs.Tables.{table_of}
use Rattle.sim.specs.Model.Engine.{Conf, task, end, roomy_of}
use Rattle.sim.specs.Model.Operations.{bare_of, sim_fits}
use Rattle.sim_refines.specs.Meaning.{config_of}
use Rattle.sim_refines.specs.Statement.{Refines}

-- the engine handed back fits again; fields and buffers of tapes that the machine lacks are unchanged
pub record HandedBack (m : Machine) (σ τ : Conf) : Type 0 where
  pub fits : sim_fits m τ.sim τ.c0 τ.c1 τ.c2 ≡ true
  pub tape1 : m.tapes < 2 → (τ.sim.t1 ≡ σ.sim.t1) × (τ.c1 ≡ σ.c1)
  pub tape2 : m.tapes < 3 → (τ.sim.t2 ≡ σ.sim.t2) × (τ.c2 ≡ σ.c2)

-- a run from σ that handed τ back and answered o is a run of the table machine, on the tapes that the machine has
pub record RunHolds (m : Machine) (s : List ℕ) (rule : Option State) (fuel : ℕ) (σ τ : Conf) (o : Outcome) : Type 0 where
  pub refines : Refines (task m s true rule) fuel (bare_of m σ) (end (bare_of m τ) o)
  pub same_before : config_of m (bare_of m σ) ≡ config_of m σ
  pub same_after : config_of m (bare_of m τ) ≡ config_of m τ
  pub back : HandedBack m σ τ

-- a step: it was made; or the machine has halted or a tape lacks space, and the configuration is unchanged
pub data StepHolds (m : Machine) (s : List ℕ) (σ τ : Conf) : Status → Type 0 where
  running : ¬ (Halted (table_of m s) (config_of m σ)) → config_of m τ ≡ step (table_of m s) (config_of m σ) → StepHolds m s σ τ Step.Running
  halted : Halted (table_of m s) (config_of m σ) → config_of m τ ≡ config_of m σ → StepHolds m s σ τ Step.Halted
  full : (a : Action) → entry (table_of m s) (config_of m σ) ≡ Some a → roomy_of (bare_of m σ) a ≡ false → config_of m τ ≡ config_of m σ → StepHolds m s σ τ Step.Full
