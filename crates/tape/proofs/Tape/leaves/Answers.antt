use Rattle.tape.proofs.Facts.MoveCases.{leaves_left, leaves_right, leaves_none}
use Rattle.tape.proofs.Tape.leaves.Goals as goal

pub returns-in-L : goal.returns-in-L
returns-in-L c = search leaves_left

pub returns-in-R : goal.returns-in-R
returns-in-R c = search leaves_right

pub returns-in-N : goal.returns-in-N
returns-in-N c = search leaves_none
