use Rattle.rle_slots.proofs.Facts.SlotCases.{take_turn}
use native.Mathlib.Omega.{arith}
use lib.ListN.{length-set}
use Rattle.rle_slots.proofs.inner.bytes.take_numbers.Goals as goal

pub loop-i-preserved : goal.loop-i-preserved
loop-i-preserved c = (omega arith, simp length-set (omega arith), take_turn _ _ _ _ _ _ c.requires.0 c.requires.1 c.loop-i-test.true c.loop-i.invariant.2 c.number.ensures)
