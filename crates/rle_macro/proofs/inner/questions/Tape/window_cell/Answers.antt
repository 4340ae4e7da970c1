use native.Mathlib.Omega.{arith}
use Rattle.rle_macro.proofs.Facts.QuestionCases.{window_past, window_cell_holds}
use Rattle.rle_macro.proofs.inner.questions.Tape.window_cell.Goals as goal

pub returns-then-raised-above : goal.returns-then-raised-above
returns-then-raised-above c = window_past _ _ _ _ _ _ (omega arith) c.if-raised-above.true

pub returns : goal.returns
returns c = window_cell_holds _ _ _ _ _ _ (omega arith) c.if-raised-above.false _ c.cell.ensures
