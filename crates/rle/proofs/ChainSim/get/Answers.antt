use Rattle.notation.proofs.Facts.Exit.{exit}
use mathlib.Core.Path.{◌∙◌}
use mir.ValLaws.{to_z-of_z}
use mir.Syntax.{w64}
use Rattle.rle.proofs.Facts.QuestionCases.{asked_ok, get_refused, get_done}
use Rattle.rle.proofs.ChainSim.get.Goals as goal

pub returns-in_err-engine_check : goal.returns-in_err-engine_check
returns-in_err-engine_check c = exit _ _ c.from_residual.ensures.1 ∙ get_refused _ _ _ _ c.engine_check.ensures _ _ c.in_err-engine_check.was

pub read-tape-requires : goal.read-tape-requires
read-tape-requires c = asked_ok _ _ _ _ c.engine_check.ensures c.in_ok-engine_check.was

pub returns : goal.returns
returns c = get_done _ _ _ _ c.engine_check.ensures c.in_ok-engine_check.was _ c.read-tape.ensures _ _ _ _ c.raised.ensures.0 (to_z-of_z w64 _ c.ranges.at) c.cell.ensures
