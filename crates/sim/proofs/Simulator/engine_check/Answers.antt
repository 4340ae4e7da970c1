use Rattle.notation.proofs.Facts.Exit.{exit}
use mathlib.Core.Path.{◌∙◌}
use Rattle.sim.proofs.Facts.OperationCases.{engine_table, engine_value}
use Rattle.sim.proofs.Simulator.engine_check.Goals as goal

pub returns-in_err-check : goal.returns-in_err-check
returns-in_err-check c = exit _ _ c.from_residual.ensures.1 ∙ engine_table _ _ _ _ _ _ _ c.check.ensures _ c.in_err-check.was

pub returns : goal.returns
returns c = engine_value _ _ _ _ _ _ _ c.check.ensures _ c.in_ok-check.was c.value_check.ensures
