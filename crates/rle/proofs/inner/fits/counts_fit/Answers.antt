use Rattle.notation.proofs.Facts.Tests.{tests, via}
use Rattle.rle.specs.Fits.{counts_fit}
use Rattle.rle.proofs.inner.fits.counts_fit.Goals as goal

pub returns-then-m-state : goal.returns-then-m-state
unfolding counts_fit
returns-then-m-state c = search tests

pub returns-then-not-steps_fit : goal.returns-then-not-steps_fit
unfolding counts_fit
returns-then-not-steps_fit c = search (tests, via) depth 9

pub returns-then-sim : goal.returns-then-sim
unfolding counts_fit
returns-then-sim c = search (tests, via) depth 9

pub returns : goal.returns
unfolding counts_fit
returns c = search (tests, via) depth 9
