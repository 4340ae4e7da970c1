use native.Mathlib.Nat.{sub-zero}
use Rattle.notation.proofs.Facts.Fill.{fill_next, fill_end}
use Rattle.rle_macro.specs.Model.Questions.{window_all}
use Rattle.rle_macro.proofs.inner.questions.Tape.fill_window.Goals as goal

pub loop-j-init : goal.loop-j-init
unfolding window_all
loop-j-init c = rw sub-zero

pub loop-j-preserved : goal.loop-j-preserved
loop-j-preserved c = search fill_next

pub returns : goal.returns
returns c = search fill_end
