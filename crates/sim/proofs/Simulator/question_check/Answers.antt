use Rattle.notation.proofs.Facts.Exit.{exit}
use mathlib.Core.Path.{◌∙◌}
use Rattle.sim.proofs.Facts.QuestionCases.{question_refused, question_lacks, question_passed}
use Rattle.sim.proofs.Simulator.question_check.Goals as goal

pub returns-in_err-engine_check : goal.returns-in_err-engine_check
returns-in_err-engine_check c = exit _ _ c.from_residual.ensures.1 ∙ question_refused _ _ _ _ _ _ _ _ c.engine_check.ensures _ c.in_err-engine_check.was

pub returns-then-m-tape : goal.returns-then-m-tape
returns-then-m-tape c = question_lacks _ _ _ _ _ _ _ _ c.engine_check.ensures c.in_ok-engine_check.was c.if-m-tape.true

pub returns : goal.returns
returns c = question_passed _ _ _ _ _ _ _ _ c.engine_check.ensures c.in_ok-engine_check.was c.if-m-tape.false
