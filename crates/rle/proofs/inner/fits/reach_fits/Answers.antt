use Rattle.rle.proofs.Facts.FitsCases.{reach-left, reach_right}
use Rattle.rle.proofs.inner.fits.reach_fits.Goals as goal

pub returns-then-tape-most : goal.returns-then-tape-most
returns-then-tape-most c = reach-left _ _ _ c.requires.lefts_bound.0 c.if-tape-most.true

pub returns : goal.returns
returns c = reach_right _ _ _ c.requires.lefts_bound.0 c.requires.lefts_bound.1 c.if-tape-most.false
