use Rattle.rle_stack.specs.Written.{held, SameSlices}
use Rattle.rle_counts.proofs.Facts.WordCases.{Laying}
use Rattle.rle_macro.proofs.inner.word.lay.Given as goal

abbrev pub invariant-loop-i : goal.invariant-loop-i
invariant-loop-i l =
    Laying l.word l.initial.side.places (held l.initial.side) (held l.side) l.i × SameSlices l.initial.side l.side
