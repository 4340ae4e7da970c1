use Prim.Native.Nat.{◌≤◌}
use mathlib.Core.Path.{◌≡◌}
use Rattle.rle_stack.specs.Model.{sum_of}
use Rattle.rle_stack.proofs.inner.cells.Given as goal

abbrev pub invariant-loop-i : goal.invariant-loop-i
invariant-loop-i g l = (l.sum ≡ sum_of (g.L.Lengths.list l.side-inside.lengths) l.i) × (l.sum ≤ l.most)
