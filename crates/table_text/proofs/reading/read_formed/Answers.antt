use Rattle.table_text_reader.proofs.Facts.ReadCases.{read_short, read_filled}
use Rattle.table_text.proofs.reading.read_formed.Goals as goal

pub returns-then-table-size : goal.returns-then-table-size
returns-then-table-size c = read_short _ _ _ _ c.if-table-size.true

pub returns : goal.returns
returns c = read_filled _ _ _ _ _ c.if-table-size.false c.fill_table.ensures
