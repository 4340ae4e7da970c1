use Rattle.notation.proofs.Facts.Exit.{exit}
use mathlib.Core.Path.{◌∙◌}
use mathlib.Core.List.{[]}
use Rattle.sim.proofs.Facts.OperationCases.{run_refused, run_passed}
use Rattle.sim.proofs.Simulator.run_check.Goals as goal

pub returns-in_err-check : goal.returns-in_err-check
returns-in_err-check c = exit _ _ c.from_residual.ensures.1 ∙ run_refused _ _ [] _ _ _ _ _ _ c.check.ensures _ c.in_err-check.was

pub returns : goal.returns
returns c = run_passed _ _ [] _ _ _ _ _ _ c.check.ensures _ c.in_ok-check.was c.fuel_check.ensures
