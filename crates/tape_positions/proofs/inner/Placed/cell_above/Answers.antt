use Rattle.tape_positions.proofs.Facts.Cases.{index_reach, raised_over, raised_at_holds}
use native.Mathlib.Omega.{arith}
use Rattle.tape_positions.proofs.inner.Placed.cell_above.Goals as goal

pub returns-then-from-j : goal.returns-then-from-j
returns-then-from-j c = raised_over _ _ _ _ (omega arith)

pub at-requires : goal.at-requires
at-requires c = search index_reach

pub returns : goal.returns
returns c = raised_at_holds _ _ _ _ _ _ c.at.ensures c.index_of_raised-found.ensures (omega arith)
