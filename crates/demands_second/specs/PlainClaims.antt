-- The tape with a given number, for the tape questions of SecondPlain. Definitions only.
use Rattle.std.specs.Prelude.{ℕ, eqb}
use Rattle.notation.specs.Choice.{pick}
use Rattle.table_machine.specs.TableMachine.{Tape, Config}

-- tape 0, 1 or 2 of a configuration
abbrev pub tape_on : ℕ → Config → Tape
tape_on i c = pick (eqb i 0) c.tape0 (pick (eqb i 1) c.tape1 c.tape2)
