use Rattle.rle_slots.specs.Model.Slots.{numbers_in}
use mathlib.Core.Path.{◌≡◌}
use Prim.Native.Nat.{◌≤◌}
use lib.ListN.{length}
use lib.Seq.{paste}
use Rattle.rle_slots.proofs.inner.bytes.take_numbers.Given as goal

abbrev pub invariant-loop-i : goal.invariant-loop-i
invariant-loop-i l = (l.i ≤ l.n) × (length l.to ≡ length l.initial.to) × (l.to ≡ paste l.initial.to 0 (numbers_in l.from) l.i)
