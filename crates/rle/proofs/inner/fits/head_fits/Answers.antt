use Rattle.notation.proofs.Facts.Tests.{tests}
use Rattle.rle.specs.Fits.{head_fits}
use Rattle.rle.proofs.inner.fits.head_fits.Goals as goal

pub returns-then-tape-sim : goal.returns-then-tape-sim
unfolding head_fits
returns-then-tape-sim c = search tests

pub returns-then-sim-tape : goal.returns-then-sim-tape
unfolding head_fits
returns-then-sim-tape c = search tests

pub returns-then-sim : goal.returns-then-sim
unfolding head_fits
returns-then-sim c = search tests

pub returns : goal.returns
unfolding head_fits
returns c = search tests
