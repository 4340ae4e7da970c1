use Rattle.listing_text.proofs.Facts.Chain.{chain}
use Rattle.listing_text.specs.Numbers.{below}
use Rattle.listing_text.proofs.fields.below_at.Goals as goal

pub returns-in_err-n : goal.returns-in_err-n
unfolding below
returns-in_err-n c = rw c.from_residual.ensures (search (chain, c.in_err-n.was) depth 8)

pub returns-then-n-top : goal.returns-then-n-top
unfolding below
returns-then-n-top c = search (chain, c.in_ok-n.was) depth 8

pub returns : goal.returns
unfolding below
returns c = search (chain, c.in_ok-n.was) depth 8
