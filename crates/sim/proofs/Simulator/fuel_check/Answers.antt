use Rattle.notation.proofs.Facts.Exit.{exit}
use mathlib.Core.Path.{◌∙◌}
use Rattle.sim.proofs.Facts.OperationCases.{fuel_refused, fuel_over, fuel_passed}
use Rattle.sim.proofs.Simulator.fuel_check.Goals as goal

pub returns-in_err-value_check : goal.returns-in_err-value_check
returns-in_err-value_check c = exit _ _ c.from_residual.ensures.1 ∙ fuel_refused _ _ _ _ _ _ _ c.value_check.ensures _ c.in_err-value_check.was

pub returns-then-not-fuel_fits : goal.returns-then-not-fuel_fits
returns-then-not-fuel_fits c = fuel_over _ _ _ _ _ _ _ c.value_check.ensures c.in_ok-value_check.was _ c.fuel_fits.ensures (c.if-not-fuel_fits.true)

pub returns : goal.returns
returns c = fuel_passed _ _ _ _ _ _ _ c.value_check.ensures c.in_ok-value_check.was _ c.fuel_fits.ensures (c.if-not-fuel_fits.false)
