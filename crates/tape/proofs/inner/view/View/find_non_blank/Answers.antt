use mir.ValLaws.{to_z-of_z}
use mir.Syntax.{w64}
use Rattle.tape.proofs.Facts.QuestionCases.{find_none, find_left, find_right, find_here}
use Rattle.tape.proofs.inner.view.View.find_non_blank.Goals as goal

pub returns-then-get-eq0 : goal.returns-then-get-eq0
returns-then-get-eq0 c = search (find_none, to_z-of_z)

pub returns-in-L : goal.returns-in-L
returns-in-L c = find_left _ _ _ _ c.placed-placed.ensures _ _ _ (to_z-of_z w64 _ c.ranges.from) _ _ c.spot.ensures c.last_up_to.ensures.0 c.in-L.is

pub returns-in-R : goal.returns-in-R
returns-in-R c = find_right _ _ _ _ c.placed-placed.ensures _ _ _ (to_z-of_z w64 _ c.ranges.from) _ _ c.spot-in-R.ensures c.first_from.ensures.0 c.in-R.is

pub returns-else-get-eq0 : goal.returns-else-get-eq0
returns-else-get-eq0 c = rw (to_z-of_z w64 c.args.from c.ranges.from) (search (find_here, to_z-of_z))
