use Rattle.std.proofs.Common.{◌≡◌, ◌-◌}
use Rattle.notation.specs.Fill.{fill_from}
use Rattle.table_text_writer.specs.Writing.{line_byte}
use Rattle.table_text.proofs.writing.write_bytes.Given as goal

abbrev pub invariant-loop-p : goal.invariant-loop-p
invariant-loop-p l =
    fill_from (line_byte l.rows l.symbols l.table) (l.size - l.p) l.p l.line ≡ fill_from (line_byte l.rows l.symbols l.table) l.size 0 l.initial.line
