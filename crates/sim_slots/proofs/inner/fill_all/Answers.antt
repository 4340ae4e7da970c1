use Rattle.sim_slots.proofs.Facts.SlotCases.{fill_asks0, fill_asks1, fill_asks2, filled_is}
use Rattle.sim_slots.proofs.inner.fill_all.Goals as goal

pub fill-requires : goal.fill-requires
fill-requires c = fill_asks0 _ _ _ _ _ _ c.requires

pub fill_if-requires : goal.fill_if-requires
fill_if-requires c = fill_asks1 _ _ _ _ _ _ c.requires _ c.part_size-p1.ensures

pub fill_if-requires-2 : goal.fill_if-requires-2
fill_if-requires-2 c = fill_asks2 _ _ _ _ _ _ c.requires _ _ c.part_size-p1.ensures c.part_size-p2.ensures

pub returns : goal.returns
returns c = filled_is _ _ _ _ _ _ _ _ _ _ _ c.part_size-p1.ensures c.part_size-p2.ensures c.fill.ensures c.fill_if.ensures c.fill_if-2.ensures
