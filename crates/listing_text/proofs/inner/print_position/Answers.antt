use Rattle.listing_text.proofs.Facts.PrintCases.{down_done, up_done}
use Rattle.listing_text.proofs.inner.print_position.Goals as goal

pub returns-then-index-origin : goal.returns-then-index-origin
returns-then-index-origin c = down_done _ _ _ _ _ _ c.print_minus.ensures c.if-index-origin.true

pub returns : goal.returns
returns c = up_done _ _ _ _ _ _ c.print_u64.ensures c.if-index-origin.false
