-- The first i places have runs 0 to i − 1, and the others are unchanged.
use Rattle.std.proofs.Common.{◌≡◌}
use Rattle.rle_records.specs.Model.{lay}
use Rattle.rle_records.proofs.inner.fill.Given as goal

abbrev pub invariant-loop-i : goal.invariant-loop-i
invariant-loop-i l = l.out ≡ lay l.side.symbols l.side.lengths l.i l.initial.out
