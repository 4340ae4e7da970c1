use Rattle.notation.proofs.Facts.Fill.{fill_end}
use Rattle.table_text.proofs.writing.write_bytes.Goals as goal

pub returns : goal.returns
returns c = search fill_end
