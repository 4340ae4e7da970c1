use Rattle.rle_slots.proofs.Facts.SlotCases.{numbers_start, numbers_turn}
use mathlib.Core.Path.{refl}
use native.Mathlib.Omega.{arith}
use Rattle.rle_slots.proofs.inner.bytes.put_numbers.Goals as goal

pub loop-i-init : goal.loop-i-init
loop-i-init c = (omega arith, refl, numbers_start _ _ _)

pub loop-i-preserved : goal.loop-i-preserved
loop-i-preserved c = (omega arith, omega (arith, c.put_64.auto), numbers_turn _ _ _ _ _ _ c.loop-i.invariant.2 c.put_64.ensures)
