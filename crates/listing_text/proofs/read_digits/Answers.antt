use Rattle.std.proofs.Common.{rules}
use Rattle.listing_text.proofs.Facts.NumberCases.{digits_next, digits_stop, digits-end}
use Rattle.listing_text.proofs.read_digits.Goals as goal

pub returns-in_err-v : goal.returns-in_err-v
returns-in_err-v c = rw c.from_residual.ensures (search (digits_stop, c.in_err-v.was))

pub loop-b-preserved : goal.loop-b-preserved
loop-b-preserved c = search (rules, digits_next, c.in_ok-v.was)

pub returns : goal.returns
returns c = search digits-end
