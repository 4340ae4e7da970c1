use Rattle.notation.proofs.Facts.Fill.{fill_end}
use Rattle.table_text.proofs.reading.fill_table.Goals as goal

pub returns : goal.returns
returns c = search fill_end
