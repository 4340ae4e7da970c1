use Rattle.rle_macro.proofs.Facts.MacroStepCases.{proof_left, proof_right, proof_stays}
use Rattle.rle_macro.proofs.inner.macro_step.proof_of.Goals as goal

pub returns-in-L : goal.returns-in-L
returns-in-L c = search proof_left

pub returns-in-R : goal.returns-in-R
returns-in-R c = search proof_right

pub returns-in-N : goal.returns-in-N
returns-in-N c = search proof_stays
