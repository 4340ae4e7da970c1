use Rattle.table_text_reader.proofs.Facts.ReadCases.{byte_undefined, byte_defined}
use Rattle.table_text.proofs.reading.table_byte.Goals as goal

pub returns-in-None : goal.returns-in-None
returns-in-None c = search byte_undefined depth 9

pub returns-in-Some : goal.returns-in-Some
returns-in-Some c = search byte_defined depth 9
