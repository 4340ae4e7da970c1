use Rattle.run_checks.specs.Model.Sizes.{sizes_fit}
use Rattle.notation.proofs.Facts.Tests.{tests, via}
use Rattle.run_checks.proofs.inner.sizes.sizes_fit.Goals as goal

pub returns-then-n0-gt-CELLS : goal.returns-then-n0-gt-CELLS
unfolding sizes_fit
returns-then-n0-gt-CELLS c = search (tests, via)

pub returns-then-not-size_fits : goal.returns-then-not-size_fits
unfolding sizes_fit
returns-then-not-size_fits c = search (tests, via)

pub returns : goal.returns
unfolding sizes_fit
returns c = search (tests, via)
