use Rattle.notation.proofs.Facts.Exit.{exit}
use mathlib.Core.Path.{sym, ◌∙◌}
use mir.ValLaws.{to_z-of_z}
use mir.Syntax.{w64}
use Rattle.sim.proofs.Facts.QuestionCases.{asked_ok, window_refused, window_done}
use Rattle.sim.proofs.Simulator.window.Goals as goal

pub returns-in_err-question_check : goal.returns-in_err-question_check
returns-in_err-question_check c = (exit _ _ c.from_residual.ensures.1 ∙ sym c.in_err-question_check.was ∙ c.question_check.ensures, window_refused _ _ _ _ _ _ _ _ c.question_check.ensures _ _ _ c.in_err-question_check.was)

pub invariant_of-view : goal.invariant_of-view
invariant_of-view c = asked_ok _ _ _ _ _ _ _ _ _ _ c.question_check.ensures c.in_ok-question_check.was c.tape_at-t.ensures c.cells_at-cells.ensures

pub returns : goal.returns
returns c = (sym c.in_ok-question_check.was ∙ c.question_check.ensures, window_done _ _ _ _ _ _ _ _ c.question_check.ensures c.in_ok-question_check.was _ _ c.tape_at-t.ensures c.cells_at-cells.ensures _ _ _ _ c.window.ensures (to_z-of_z w64 _ c.ranges.from))
