use Rattle.rle_slots.proofs.Facts.SlotCases.{peek_other, peek_misfit, peek_holds}
use Rattle.rle_slots.proofs.inner.held.peek.Goals as goal

pub returns-then-sim-step : goal.returns-then-sim-step
returns-then-sim-step c = peek_other _ _ _ _ _ _ c.value_in-sim.ensures c.if-sim-step.true

pub returns-then-not-fits_in : goal.returns-then-not-fits_in
returns-then-not-fits_in c = peek_misfit _ _ _ _ _ _ c.value_in-sim.ensures c.if-sim-step.false _ c.fits_in.ensures (c.if-not-fits_in.true)

pub returns : goal.returns
returns c = peek_holds _ _ _ _ _ _ c.value_in-sim.ensures c.if-sim-step.false _ c.fits_in.ensures (c.if-not-fits_in.false)
