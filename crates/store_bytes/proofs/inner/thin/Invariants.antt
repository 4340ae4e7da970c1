use Rattle.std.proofs.Common.{◌≡◌, ◌≤◌, length}
use Rattle.store_bytes.specs.Model.{thin_by, move_slot}
use Rattle.store_bytes.proofs.inner.thin.Given as goal

abbrev pub invariant-loop-i : goal.invariant-loop-i
invariant-loop-i l = (l.i ≤ l.k) × (length l.store ≡ length l.initial.store) × (l.store ≡ thin_by (move_slot l.size) l.i l.initial.store)
