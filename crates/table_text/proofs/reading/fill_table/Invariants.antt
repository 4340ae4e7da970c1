use Rattle.std.proofs.Common.{◌≡◌, ◌-◌}
use Rattle.notation.specs.Fill.{fill_from}
use Rattle.table_text_reader.specs.Reading.{table_byte}
use Rattle.table_text.proofs.reading.fill_table.Given as goal

abbrev pub invariant-loop-j : goal.invariant-loop-j
invariant-loop-j l =
    fill_from (table_byte l.rows l.symbols l.line) (l.size - l.j) l.j l.table ≡ fill_from (table_byte l.rows l.symbols l.line) l.size 0 l.initial.table
