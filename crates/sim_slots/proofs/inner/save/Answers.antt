use native.Mathlib.Omega.{arith}
use Rattle.sim_slots.proofs.Facts.SlotCases.{put_asks0, put_asks1, put_asks2, packed_is}
use Rattle.sim_slots.proofs.inner.save.Goals as goal

pub put_held-requires : goal.put_held-requires
put_held-requires c = put_asks0 _ _ _ _ _ _ _ c.requires (omega (arith, c.put_16.auto, c.put_64.auto))

pub put_if-requires : goal.put_if-requires
put_if-requires c = put_asks1 _ _ _ _ _ _ _ c.requires (omega (arith, c.put_16.auto, c.put_64.auto, c.put_held.auto))

pub put_if-requires-2 : goal.put_if-requires-2
put_if-requires-2 c = put_asks2 _ _ _ _ _ _ _ c.requires (omega (arith, c.put_16.auto, c.put_64.auto, c.put_held.auto, c.put_if.auto)) _ c.part_size-n1.ensures

pub returns : goal.returns
returns c = packed_is _ _ _ _ _ _ _ _ _ _ _ _ c.part_size-n1.ensures c.put_16.ensures c.put_64.ensures c.put_held.ensures c.put_if.ensures c.put_if-2.ensures
