use Rattle.listing_lines.specs.Forms.{move}
use Rattle.listing_text.proofs.Facts.Chain.{chain}
use Rattle.listing_lines.proofs.move_at.Goals as goal

pub returns-then-field_is : goal.returns-then-field_is
unfolding move
returns-then-field_is c = search chain depth 8

pub returns-then-field_is-2 : goal.returns-then-field_is-2
unfolding move
returns-then-field_is-2 c = search chain depth 8

pub returns-then-field_is-3 : goal.returns-then-field_is-3
unfolding move
returns-then-field_is-3 c = search chain depth 8

pub returns : goal.returns
unfolding move
returns c = search chain depth 8
