use Rattle.std.proofs.Common.{arith}
use Rattle.tape.proofs.Facts.QuestionCases.{beyond_left, beyond_right, beyond_none}
use Rattle.tape.proofs.inner.view.View.only_blanks_beyond.Goals as goal

pub returns-in-L : goal.returns-in-L
returns-in-L c = rw (← c.self.view_is) (beyond_left _ _ _ _ (omega arith) c.all_blank.ensures c.in-L.is)

pub returns-in-R : goal.returns-in-R
returns-in-R c = rw (← c.self.view_is) (beyond_right _ _ _ _ _ (omega arith) c.min-beyond.ensures c.all_blank-in-R.ensures c.in-R.is)

pub returns-in-N : goal.returns-in-N
returns-in-N c = rw (← c.self.view_is) (beyond_none _ _ _ c.in-N.is)
