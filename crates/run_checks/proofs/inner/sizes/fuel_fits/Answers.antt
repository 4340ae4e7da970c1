use Rattle.run_checks.specs.Model.Sizes.{fuel_fits}
use Rattle.notation.proofs.Facts.Tests.{tests}
use Rattle.run_checks.proofs.inner.sizes.fuel_fits.Goals as goal

pub returns-then-fuel-gt-STEPS : goal.returns-then-fuel-gt-STEPS
unfolding fuel_fits
returns-then-fuel-gt-STEPS c = search tests

pub returns : goal.returns
unfolding fuel_fits
returns c = search tests
