use Rattle.rle.proofs.Facts.FitsCases.{value_tapes, value_lefts, value_rights, value_misfit, value_passed}
use Rattle.rle.proofs.ChainSim.value_check.Goals as goal

pub returns-then-m-ne1 : goal.returns-then-m-ne1
returns-then-m-ne1 c = value_tapes _ _ _ _ _ _ c.if-m-ne1.true

pub returns-then-places-gt-RUNS : goal.returns-then-places-gt-RUNS
returns-then-places-gt-RUNS c = value_lefts _ _ _ _ _ _ c.if-m-ne1.false _ c.places.ensures c.if-places-gt-RUNS.true

pub returns-then-places-gt-RUNS-2 : goal.returns-then-places-gt-RUNS-2
returns-then-places-gt-RUNS-2 c = value_rights _ _ _ _ _ _ c.if-m-ne1.false _ c.places.ensures c.if-places-gt-RUNS.false _ c.places-2.ensures c.if-places-gt-RUNS-2.true

pub returns-then-not-fits : goal.returns-then-not-fits
returns-then-not-fits c = value_misfit _ _ _ _ _ _ c.if-m-ne1.false _ c.places.ensures c.if-places-gt-RUNS.false _ c.places-2.ensures c.if-places-gt-RUNS-2.false _ c.fits.ensures (c.if-not-fits.true)

pub returns : goal.returns
returns c = value_passed _ _ _ _ _ _ c.if-m-ne1.false _ c.places.ensures c.if-places-gt-RUNS.false _ c.places-2.ensures c.if-places-gt-RUNS-2.false _ c.fits.ensures (c.if-not-fits.false)
