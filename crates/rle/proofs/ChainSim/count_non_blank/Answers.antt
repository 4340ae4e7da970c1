use Rattle.notation.proofs.Facts.Exit.{exit}
use mathlib.Core.Path.{◌∙◌}
use Rattle.rle.proofs.Facts.QuestionCases.{asked_ok, asked_sums, count_refused, count_done}
use Rattle.rle.proofs.ChainSim.count_non_blank.Goals as goal

pub returns-in_err-engine_check : goal.returns-in_err-engine_check
returns-in_err-engine_check c = exit _ _ c.from_residual.ensures.1 ∙ count_refused _ _ _ _ c.engine_check.ensures _ c.in_err-engine_check.was

pub read-tape-requires : goal.read-tape-requires
read-tape-requires c = asked_ok _ _ _ _ c.engine_check.ensures c.in_ok-engine_check.was

pub count-requires : goal.count-requires
count-requires c = asked_sums _ _ _ _ c.engine_check.ensures c.in_ok-engine_check.was _ c.read-tape.ensures

pub returns : goal.returns
returns c = count_done _ _ _ _ c.engine_check.ensures c.in_ok-engine_check.was _ c.read-tape.ensures _ c.count.ensures
