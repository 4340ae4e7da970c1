use mathlib.Core.Path.{refl}
use Rattle.notation.specs.Choice.{pick}
use Rattle.listing_lines.proofs.Facts.FormCases.{given_yes, given_no, defined}
use Rattle.listing_lines.proofs.inner.give.Goals as goal

pub returns-then-table-at-eq1 : goal.returns-then-table-at-eq1
unfolding pick
returns-then-table-at-eq1 c = (search given_yes, refl)

pub returns : goal.returns
unfolding pick
returns c = (search given_no, search defined)
