use Prim.Native.Nat.{◌+◌, ◌-◌, ◌≤◌}
use mathlib.Core.Path.{◌≡◌}
use lib.ListN.{length}
use Rattle.rle_counts.specs.Model.Words.{runs_of}
use Rattle.rle_macro.proofs.inner.word.runs_in.Given as goal

abbrev pub invariant-loop-i : goal.invariant-loop-i
invariant-loop-i l =
    (runs_of l.word (l.i - 1) l.top l.count ≡ runs_of l.word (length l.word - 1) 0 0) × (l.i ≤ length l.word) × (l.count + l.i ≤ length l.word)
