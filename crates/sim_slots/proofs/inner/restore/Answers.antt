use Rattle.sim_slots.proofs.Facts.SlotCases.{filled_asks, restored_none, restored_some}
use Rattle.sim_slots.proofs.inner.restore.Goals as goal

pub returns-then-not-holds_one : goal.returns-then-not-holds_one
returns-then-not-holds_one c = restored_none _ _ _ _ _ _ _ _ c.get_sim-v.ensures _ c.holds_one.ensures (c.if-not-holds_one.true)

pub fill_all-requires : goal.fill_all-requires
fill_all-requires c = filled_asks _ _ _ _ _ _ _ _ c.holds_one.ensures (c.if-not-holds_one.false) c.requires

pub returns : goal.returns
returns c = restored_some _ _ _ _ _ _ _ _ c.get_sim-v.ensures _ c.holds_one.ensures _ _ _ (c.if-not-holds_one.false) c.fill_all.ensures
