-- The table machine for the task of a run of either engine: the run's table, the verdict at a configuration, the stop rule there. Definitions only.
use Rattle.std.specs.Prelude.{◌≡◌, Bool, true}
use Rattle.symbol.specs.Kinds.{state_of}
use Rattle.outcome.specs.declared.Outcome.{Outcome}
use Rattle.run_rules.specs.Model.Task.{Task, matches}
use Rattle.table_machine.specs.TableMachine.{Table, Config, out_of_fuel_at, Verdict}
use Rattle.table_machine.specs.Tables.{table_of}

abbrev pub table_in : Task → Table
table_in k = table_of k.machine k.table

-- "Its verdict at a configuration"
abbrev pub Judged : Task → Config → Outcome → Type 0
Judged k c o = Verdict k.machine.tapes (table_in k) c o

-- where the never test is made, the verdict is out of fuel: the test proves nothing
abbrev pub Unproved : Task → Config → Type 0
Unproved k c = k.proves ≡ true → Judged k c (out_of_fuel_at c)

-- whether the stop rule matches the state: "a `from` state, one not below n never matching"
abbrev pub has_rule : Task → Config → Bool
has_rule k c = matches k.rule (state_of c.state)
