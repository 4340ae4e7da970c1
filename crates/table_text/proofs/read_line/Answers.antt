use Rattle.table_text_reader.proofs.Facts.ReadCases.{read_malformed, read_lacks, read_has}
use Rattle.table_text_form.proofs.Facts.Columns.{formed_of_form}
use mathlib.Core.Path.{sym, ◌∙◌}
use Rattle.table_text.proofs.read_line.Goals as goal

pub returns-in-Err : goal.returns-in-Err
returns-in-Err c = read_malformed _ _ _ c.scan-scanned.ensures _ c.in-Err.is

pub first_lacking-lacks-requires : goal.first_lacking-lacks-requires
first_lacking-lacks-requires c = let f = formed_of_form _ _ _ (sym c.scan-scanned.ensures ∙ c.in-Ok.is) in (f.rows_are.1, f.symbols_are.1)

pub returns-in-Some : goal.returns-in-Some
returns-in-Some c = read_lacks _ _ _ c.scan-scanned.ensures _ _ c.in-Ok.is _ c.first_lacking-lacks.ensures _ c.in-Some.is

pub read_formed-requires : goal.read_formed-requires
read_formed-requires c = formed_of_form _ _ _ (sym c.scan-scanned.ensures ∙ c.in-Ok.is)

pub returns-in-None : goal.returns-in-None
returns-in-None c = read_has _ _ _ c.scan-scanned.ensures _ _ c.in-Ok.is _ c.first_lacking-lacks.ensures c.in-None.is _ _ c.read_formed.ensures.0 c.read_formed.ensures.1
