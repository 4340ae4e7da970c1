use Rattle.sim_slots.proofs.Facts.SlotCases.{fill_none, fill_some}
use Rattle.sim_slots.proofs.inner.fill_if.Goals as goal

pub returns-then-not-has : goal.returns-then-not-has
returns-then-not-has c = fill_none _ _ _ _ (c.if-not-has.true)

pub returns : goal.returns
returns c = fill_some _ _ _ _ _ (c.if-not-has.false) c.fill.ensures
