use Rattle.rle_macro.proofs.Facts.MacroStepCases.{head_left, head_right, head_stays}
use Rattle.rle_macro.proofs.inner.macro_step.head_for.Goals as goal

pub returns-in-L : goal.returns-in-L
returns-in-L c = search head_left

pub returns-in-R : goal.returns-in-R
returns-in-R c = search head_right

pub returns-in-N : goal.returns-in-N
returns-in-N c = search head_stays
