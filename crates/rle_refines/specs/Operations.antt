-- The claims about the run-length engine's operations, by the models that the contracts of `new` and `run` cite. Definitions only.
use Rattle.symbol.specs.declared.State.{State}
use Rattle.std.specs.Prelude.{◌≡◌, true, List, ℕ, length, Ok, Option}
use Rattle.outcome.specs.declared.Outcome.{Outcome}
use Rattle.machine.specs.declared.Machine.{Machine}
use Rattle.table_machine.specs.TableMachine.{start}
use Rattle.run_rules.specs.Model.Task.{task}
use Rattle.rle.specs.Model.Engine.{Conf, end}
use Rattle.rle.specs.Fits.{engine_check}
use Rattle.rle_refines.specs.Meaning.{config_of, ChainFits}
use Rattle.rle_refines.specs.Statement.{Refines}

-- a run from σ that returned τ and answered o: its steps are the table machine's, and the check accepts τ again
pub record RunHolds (m : Machine) (s : List ℕ) (rule : Option State) (fuel : ℕ) (σ τ : Conf) (o : Outcome) : Type 0 where
  pub refines : Refines (task m s true rule) fuel σ (end τ o)
  pub accepted : engine_check m s τ ≡ Ok tt

-- a fresh engine: "It starts in the start state, heads at 0, tape 0 holding the word from 0 rightward, all else blank."; the check accepts it,
-- and the right side's lists are as long as those lent
pub record NewHolds (m : Machine) (s w rs rl : List ℕ) (σ : Conf) : Type 0 where
  pub holds : config_of σ ≡ start m.start w
  pub fits : ChainFits m σ
  pub accepted : engine_check m s σ ≡ Ok tt
  pub same_rs : length σ.rs ≡ length rs
  pub same_rl : length σ.rl ≡ length rl
