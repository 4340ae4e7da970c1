use Rattle.tape.proofs.Facts.MoveCases.{not_left, shift_left, shift_right, shift_none}
use Rattle.tape.proofs.Tape.shifted.Goals as goal

pub overflow_sub-head : goal.overflow_sub-head
overflow_sub-head c = search not_left

pub returns-in-L : goal.returns-in-L
returns-in-L c = search shift_left

pub returns-in-R : goal.returns-in-R
returns-in-R c = search shift_right

pub returns-in-N : goal.returns-in-N
returns-in-N c = search shift_none
