use Rattle.table_text_writer.proofs.Facts.Fits.{printable_at}
use Rattle.table_text.proofs.writing.line_byte.Goals as goal

pub entry_text-requires : goal.entry_text-requires
entry_text-requires c = printable_at _ _ _ c.requires.0 c.entry_at-entry.ensures
