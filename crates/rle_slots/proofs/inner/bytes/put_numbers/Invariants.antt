use Rattle.rle_slots.specs.Model.Slots.{put_numbers}
use mathlib.Core.Path.{◌≡◌}
use Prim.Native.Nat.{◌≤◌}
use lib.ListN.{length}
use Rattle.rle_slots.proofs.inner.bytes.put_numbers.Given as goal

abbrev pub invariant-loop-i : goal.invariant-loop-i
invariant-loop-i l = (l.i ≤ l.n) × (length l.to ≡ length l.initial.to) × (l.to ≡ put_numbers l.initial.to l.at l.from l.i)
