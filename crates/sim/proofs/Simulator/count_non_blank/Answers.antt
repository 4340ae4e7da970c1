use Rattle.notation.proofs.Facts.Exit.{exit}
use mathlib.Core.Path.{◌∙◌}
use Rattle.sim.proofs.Facts.QuestionCases.{asked_ok, count_refused, count_done}
use Rattle.sim.proofs.Simulator.count_non_blank.Goals as goal

pub returns-in_err-question_check : goal.returns-in_err-question_check
returns-in_err-question_check c = exit _ _ c.from_residual.ensures.1 ∙ count_refused _ _ _ _ _ _ _ _ c.question_check.ensures _ c.in_err-question_check.was

pub invariant_of-view : goal.invariant_of-view
invariant_of-view c = asked_ok _ _ _ _ _ _ _ _ _ _ c.question_check.ensures c.in_ok-question_check.was c.tape_at-t.ensures c.cells_at-cells.ensures

pub returns : goal.returns
returns c = count_done _ _ _ _ _ _ _ _ c.question_check.ensures c.in_ok-question_check.was _ _ c.tape_at-t.ensures c.cells_at-cells.ensures _ c.count_non_blank.ensures
