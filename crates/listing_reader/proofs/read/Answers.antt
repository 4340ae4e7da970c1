use Rattle.listing_reader.proofs.Facts.ParseCases.{read_all}
use Rattle.listing_reader.proofs.read.Goals as goal

pub returns : goal.returns
returns c = read_all _ _ _ _ _ c.parse-parsed.ensures
