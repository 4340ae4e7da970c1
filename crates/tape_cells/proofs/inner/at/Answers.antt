use Rattle.tape_cells.proofs.Facts.LoopCases.{found_at, found_none}
use Rattle.tape_cells.proofs.inner.at.Goals as goal

pub returns-in-None : goal.returns-in-None
returns-in-None c = search found_none

pub returns-in-Some : goal.returns-in-Some
returns-in-Some c = found_at _ _ _ c.in-Some.is
