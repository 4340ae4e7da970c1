use Rattle.notation.proofs.Facts.Exit.{exit}
use mathlib.Core.Path.{◌∙◌}
use mir.ValLaws.{to_z-of_z}
use mir.Syntax.{w64}
use Rattle.sim.proofs.Facts.QuestionCases.{asked_ok, get_refused, get_done}
use Rattle.sim.proofs.Simulator.get.Goals as goal

pub returns-in_err-question_check : goal.returns-in_err-question_check
returns-in_err-question_check c = exit _ _ c.from_residual.ensures.1 ∙ get_refused _ _ _ _ _ _ _ _ c.question_check.ensures _ _ c.in_err-question_check.was

pub invariant_of-view : goal.invariant_of-view
invariant_of-view c = asked_ok _ _ _ _ _ _ _ _ _ _ c.question_check.ensures c.in_ok-question_check.was c.tape_at-t.ensures c.cells_at-cells.ensures

pub returns : goal.returns
returns c = get_done _ _ _ _ _ _ _ _ c.question_check.ensures c.in_ok-question_check.was _ _ c.tape_at-t.ensures c.cells_at-cells.ensures _ _ _ c.get.ensures (to_z-of_z w64 _ c.ranges.at)
