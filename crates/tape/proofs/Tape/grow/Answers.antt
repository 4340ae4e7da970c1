use Rattle.tape.proofs.Facts.MoveCases.{grow_fits, grow_left, grow_right, grow_none}
use Rattle.tape.proofs.Tape.grow.Goals as goal

pub open_left-requires : goal.open_left-requires
open_left-requires c = search grow_fits

pub open_right-requires : goal.open_right-requires
open_right-requires c = search grow_fits

pub returns-in-L : goal.returns-in-L
returns-in-L c = search grow_left

pub returns-in-R : goal.returns-in-R
returns-in-R c = search grow_right

pub returns-in-N : goal.returns-in-N
returns-in-N c = search grow_none
