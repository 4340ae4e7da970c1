use Rattle.rle_slots.proofs.Facts.SlotCases.{number_here}
use Rattle.rle_slots.proofs.inner.bytes.number.Goals as goal

pub returns : goal.returns
returns c = number_here _ _ _ c.get_64.ensures c.requires
