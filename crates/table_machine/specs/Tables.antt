-- The table's bytes as a table of the table machine, the tables of a machine, and the tapes that a machine lacks. Definitions only.
use Rattle.std.specs.Prelude.{◌≡◌, List, ℕ, ◌<◌, Some}
use Rattle.machine.specs.declared.Machine.{Machine}
use Rattle.machine.specs.declared.Action.{Action}
use Rattle.machine.specs.Layout.{stride_of, entry_number, entry_at}
use Rattle.table_laws.specs.WellFormed.{ActionOf}
use Rattle.table_machine.specs.TableMachine.{Table, Config, blank_tape}

-- "The entry for state q and symbols a0, a1, a2"
unfoldable pub table_of : Machine → List ℕ → Table
table_of m s q a0 a1 a2 = entry_at s (entry_number m.symbols (stride_of m) q a0 a1 a2)

-- every entry has a next state below n, writes symbols below k, and leaves the tapes that the machine lacks unchanged
abbrev pub TableOf : Machine → Table → Type 0
TableOf m d = (q x y z : ℕ) (a : Action) → d q x y z ≡ Some a → ActionOf m a

-- the tapes that the machine lacks are blank
pub record Bare (tapes : ℕ) (c : Config) : Type 0 where
  pub second : tapes < 2 → c.tape1 ≡ blank_tape
  pub third : tapes < 3 → c.tape2 ≡ blank_tape
