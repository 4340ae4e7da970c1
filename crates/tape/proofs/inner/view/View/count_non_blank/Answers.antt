use Rattle.tape.proofs.Facts.QuestionCases.{count_is}
use Rattle.tape.proofs.inner.view.View.count_non_blank.Goals as goal

pub returns : goal.returns
returns c = rw (← c.self.view_is) (count_is _ _ _ c.self.invariant.len_in c.count_written.ensures)
