use Rattle.sim_slots.proofs.Facts.SlotCases.{fits_second, fits_third}
use Rattle.sim.specs.Model.Operations.{sim_fits}
use Rattle.notation.proofs.Facts.Tests.{tests, via}
use Rattle.sim_slots.proofs.inner.fits_in.Goals as goal

pub returns-then-m-q : goal.returns-then-m-q
unfolding sim_fits
returns-then-m-q c = search (tests, via) depth 9

pub returns-then-v-gt-STEPS : goal.returns-then-v-gt-STEPS
unfolding sim_fits
returns-then-v-gt-STEPS c = search (tests, via) depth 9

pub returns-then-not-part_fits : goal.returns-then-not-part_fits
unfolding sim_fits
returns-then-not-part_fits c = search (tests, via) depth 9

pub returns-then-not-part_fits_if : goal.returns-then-not-part_fits_if
returns-then-not-part_fits_if c = fits_second c.args.m c.args.v c.args.slot.now c.args.n0 c.args.n1 c.args.n2 _ _ c.part_size-p1.ensures c.part_size-p2.ensures c.if-m-q.false c.if-v-gt-STEPS.false _ _ c.part_fits.ensures (c.if-not-part_fits.false) c.part_fits_if.ensures (c.if-not-part_fits_if.true)

pub returns : goal.returns
returns c = fits_third c.args.m c.args.v c.args.slot.now c.args.n0 c.args.n1 c.args.n2 _ _ c.part_size-p1.ensures c.part_size-p2.ensures c.if-m-q.false c.if-v-gt-STEPS.false _ _ c.part_fits.ensures (c.if-not-part_fits.false) c.part_fits_if.ensures (c.if-not-part_fits_if.false) _ c.part_fits_if-2.ensures
