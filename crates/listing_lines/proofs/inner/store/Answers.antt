use Rattle.listing_lines.proofs.Facts.FormCases.{stored}
use Rattle.listing_lines.proofs.inner.store.Goals as goal

pub returns : goal.returns
returns c = search stored
