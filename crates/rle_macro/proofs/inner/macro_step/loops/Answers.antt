use Rattle.rle_macro.proofs.Facts.MacroStepCases.{loops_left, loops_right, loops_stays}
use Rattle.rle_macro.proofs.inner.macro_step.loops.Goals as goal

pub returns-in-L : goal.returns-in-L
returns-in-L c = loops_left _ _ _ _ _ _ c.walks.ensures c.in-L.is

pub returns-in-R : goal.returns-in-R
returns-in-R c = loops_right _ _ _ _ _ _ c.walks-in-R.ensures c.in-R.is

pub returns-in-N : goal.returns-in-N
returns-in-N c = search loops_stays
