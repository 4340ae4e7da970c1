use Rattle.notation.proofs.Facts.Exit.{exit}
use mathlib.Core.Path.{◌∙◌}
use Rattle.rle.proofs.Facts.RecordCases.{list_refused, list_room}
use Rattle.rle.proofs.ChainSim.list_check.Goals as goal

pub returns-in_err-engine_check : goal.returns-in_err-engine_check
returns-in_err-engine_check c = exit _ _ c.from_residual.ensures.1 ∙ list_refused _ _ _ _ _ _ c.engine_check.ensures _ c.in_err-engine_check.was

pub returns : goal.returns
returns c = list_room _ _ _ _ _ _ c.engine_check.ensures _ c.in_ok-engine_check.was c.room_for.ensures
