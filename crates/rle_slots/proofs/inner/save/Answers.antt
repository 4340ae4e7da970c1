use Rattle.rle_slots.proofs.Facts.SlotCases.{saved}
use Rattle.rle_slots.proofs.inner.save.Goals as goal

pub returns : goal.returns
returns c = saved _ _ _ _ _ _ _ c.places-lp.ensures c.places-rp.ensures _ _ _ _ _ _ c.put_value.ensures c.copy_in.ensures c.copy_in-2.ensures c.put_numbers.ensures c.put_numbers-2.ensures
