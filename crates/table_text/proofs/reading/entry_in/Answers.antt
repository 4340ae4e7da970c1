use Rattle.table_text_reader.proofs.Facts.Places.{text_entry}
use Rattle.table_text.proofs.reading.entry_in.Goals as goal

pub entry_of-requires : goal.entry_of-requires
entry_of-requires c = (c.requires.rows_are.1, text_entry _ _ _ c.requires _ c.if-rows-symbols.false)
