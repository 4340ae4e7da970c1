use Rattle.std.proofs.Common.{refl}
use Rattle.rle_slots.proofs.Facts.SlotCases.{value_written}
use Rattle.rle_slots.proofs.inner.put_value.Goals as goal

pub returns : goal.returns
returns c = value_written _ _ _ _ _ _ _ _ _ _ _ c.put_16.ensures refl c.put_64.ensures c.put_64-2.ensures c.put_64-3.ensures c.put_64-4.ensures c.put_64-5.ensures c.put_64-6.ensures c.put_64-7.ensures
