use Rattle.rle.proofs.Facts.FitsCases.{fits_counts, fits_head, fits_left, fits_right, fits_reach, counts_steps}
use Rattle.rle_slots.proofs.Facts.SlotCases.{lefts_are, rights_are}
use native.Mathlib.Omega.{arith}
use Rattle.rle_slots.proofs.inner.held.fits_in.Goals as goal

pub returns-then-not-counts_fit : goal.returns-then-not-counts_fit
returns-then-not-counts_fit c = fits_counts _ _ _ _ _ _ _ c.counts_fit.ensures (c.if-not-counts_fit.true)

pub head_fits-requires : goal.head_fits-requires
head_fits-requires c = counts_steps _ _ _ c.counts_fit.ensures (c.if-not-counts_fit.false)

pub returns-then-not-head_fits : goal.returns-then-not-head_fits
returns-then-not-head_fits c = fits_head _ _ _ _ _ _ _ c.counts_fit.ensures (c.if-not-counts_fit.false) _ c.head_fits.ensures (c.if-not-head_fits.true)

pub overflow_add-most : goal.overflow_add-most
overflow_add-most c = omega (arith, counts_steps _ _ _ c.counts_fit.ensures (c.if-not-counts_fit.false))

pub side_cells-lefts-requires : goal.side_cells-lefts-requires
side_cells-lefts-requires c = (omega (arith, c.requires), omega (arith, c.requires), omega (arith, counts_steps _ _ _ c.counts_fit.ensures (c.if-not-counts_fit.false)))

pub returns-then-most-lefts : goal.returns-then-most-lefts
returns-then-most-lefts c = fits_left _ _ _ _ _ _ _ c.counts_fit.ensures (c.if-not-counts_fit.false) _ c.head_fits.ensures (c.if-not-head_fits.false) _ (lefts_are c.args.slot.now _ _ c.requires) _ c.side_cells-lefts.ensures c.if-most-lefts.true

pub side_cells-rights-requires : goal.side_cells-rights-requires
side_cells-rights-requires c = (omega (arith, c.requires), omega (arith, c.requires), omega (arith, counts_steps _ _ _ c.counts_fit.ensures (c.if-not-counts_fit.false)))

pub returns-then-most-rights : goal.returns-then-most-rights
returns-then-most-rights c = fits_right _ _ _ _ _ _ _ c.counts_fit.ensures (c.if-not-counts_fit.false) _ c.head_fits.ensures (c.if-not-head_fits.false) _ (lefts_are c.args.slot.now _ _ c.requires) _ c.side_cells-lefts.ensures c.if-most-lefts.false _ (rights_are c.args.slot.now _ _ c.requires) _ c.side_cells-rights.ensures c.if-most-rights.true

pub reach_fits-requires-clause-steps_le_steps_most : goal.reach_fits-requires-clause-steps_le_steps_most
reach_fits-requires-clause-steps_le_steps_most c = counts_steps _ _ _ c.counts_fit.ensures (c.if-not-counts_fit.false)

pub returns : goal.returns
returns c = fits_reach _ _ _ _ _ _ _ c.counts_fit.ensures (c.if-not-counts_fit.false) _ c.head_fits.ensures (c.if-not-head_fits.false) _ (lefts_are c.args.slot.now _ _ c.requires) _ c.side_cells-lefts.ensures c.if-most-lefts.false _ (rights_are c.args.slot.now _ _ c.requires) _ c.side_cells-rights.ensures c.if-most-rights.false _ c.reach_fits.ensures
