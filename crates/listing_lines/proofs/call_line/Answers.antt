use Rattle.listing_lines.specs.Forms.{call_line}
use Rattle.listing_text.proofs.Facts.Chain.{chain}
use Rattle.listing_lines.proofs.call_line.Goals as goal

pub returns-then-count_fields-ne2 : goal.returns-then-count_fields-ne2
unfolding call_line
returns-then-count_fields-ne2 c = search chain depth 12

pub returns-in_err-number : goal.returns-in_err-number
unfolding call_line
returns-in_err-number c = rw c.from_residual.ensures (search (chain, c.in_err-number.was) depth 12)

pub returns-then-field_is : goal.returns-then-field_is
unfolding call_line
returns-then-field_is c = search (chain, c.in_ok-number.was) depth 12

pub returns-then-field_is-2 : goal.returns-then-field_is-2
unfolding call_line
returns-then-field_is-2 c = search (chain, c.in_ok-number.was) depth 12

pub returns-then-field_is-3 : goal.returns-then-field_is-3
unfolding call_line
returns-then-field_is-3 c = search (chain, c.in_ok-number.was) depth 12

pub returns : goal.returns
unfolding call_line
returns c = search (chain, c.in_ok-number.was) depth 12
