-- Where the table machine goes on, and the run-length engine's rule for a full step. Definitions only.
use Rattle.std.specs.Prelude.{List, ℕ}
use Rattle.machine.specs.declared.Machine.{Machine}
use Rattle.table_machine.specs.TableMachine.{Table, Config, out_of_fuel_at, Verdict}
use Rattle.table_machine.specs.Tables.{table_of}
use Rattle.rle_stack.specs.Model.{places_of}
use Rattle.rle.specs.Model.Engine.{Conf}
use Rattle.rle_refines.specs.Meaning.{config_of}
use Rattle.rle_refines.specs.Full.{FullAt}

-- the table machine's verdict at the configuration is out of fuel: there is an entry, and no proved loop
abbrev pub GoesOn : Machine → Table → Config → Type 0
GoesOn m d c = Verdict m.tapes d c (out_of_fuel_at c)

-- "Full exactly when the step's push needs a new run on a side whose live runs fill its lent places."
abbrev pub ChainFull : Machine → List ℕ → Conf → Type 0
ChainFull m s σ = FullAt m (table_of m s) (places_of σ.ls σ.ll) (places_of σ.rs σ.rl) (config_of σ)
