use Rattle.sim_slots.proofs.Facts.SlotCases.{holds_other, holds_fits}
use Rattle.sim_slots.proofs.inner.holds_one.Goals as goal

pub returns-then-v-step : goal.returns-then-v-step
returns-then-v-step c = search holds_other

pub returns : goal.returns
returns c = search holds_fits
