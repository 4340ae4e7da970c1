use mathlib.Core.Path.{◌≡◌}
use Prim.Native.Nat.{◌≤◌}
use Rattle.rle_stack.specs.Model.{sum_of, weight_of}
use Rattle.rle_stack.proofs.inner.written.Given as goal

abbrev pub invariant-loop-i : goal.invariant-loop-i
invariant-loop-i g l =
    (l.sum ≡ weight_of l.side-inside.symbols.now (g.L.Lengths.list l.side-inside.lengths) l.i) × (l.sum ≤ sum_of (g.L.Lengths.list l.side-inside.lengths) l.i)
