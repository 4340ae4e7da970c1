use Rattle.notation.proofs.Facts.Exit.{exit}
use mathlib.Core.Path.{◌∙◌}
use Rattle.rle.proofs.Facts.QuestionCases.{asked_ok, extent_refused, extent_done}
use Rattle.rle.proofs.ChainSim.non_blank.Goals as goal

pub returns-in_err-engine_check : goal.returns-in_err-engine_check
returns-in_err-engine_check c = exit _ _ c.from_residual.ensures.1 ∙ extent_refused _ _ _ _ c.engine_check.ensures _ c.in_err-engine_check.was

pub span-requires : goal.span-requires
span-requires c = asked_ok _ _ _ _ c.engine_check.ensures c.in_ok-engine_check.was

pub returns : goal.returns
returns c = extent_done _ _ _ _ c.engine_check.ensures c.in_ok-engine_check.was _ c.span.ensures
