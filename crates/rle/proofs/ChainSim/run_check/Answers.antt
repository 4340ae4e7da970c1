use Rattle.notation.proofs.Facts.Exit.{exit}
use mathlib.Core.Path.{◌∙◌}
use Rattle.rle.proofs.Facts.FitsCases.{run_refused, run-over, run_passed}
use Rattle.rle.proofs.ChainSim.run_check.Goals as goal

pub returns-in_err-engine_check : goal.returns-in_err-engine_check
returns-in_err-engine_check c = exit _ _ c.from_residual.ensures.1 ∙ run_refused _ _ _ _ _ _ _ _ _ c.engine_check.ensures _ c.in_err-engine_check.was

pub returns-then-not-fuel_fits : goal.returns-then-not-fuel_fits
returns-then-not-fuel_fits c = run-over _ _ _ _ _ _ _ _ _ c.engine_check.ensures c.in_ok-engine_check.was _ c.fuel_fits.ensures (c.if-not-fuel_fits.true)

pub returns : goal.returns
returns c = run_passed _ _ _ _ _ _ _ _ _ c.engine_check.ensures c.in_ok-engine_check.was _ c.fuel_fits.ensures (c.if-not-fuel_fits.false)
