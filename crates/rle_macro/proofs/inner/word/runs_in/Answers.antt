use native.Mathlib.Omega.{arith}
use Rattle.rle_counts.proofs.Facts.WordCases.{runs_next, runs-end}
use Rattle.rle_macro.proofs.inner.word.runs_in.Goals as goal

pub loop-i-preserved : goal.loop-i-preserved
loop-i-preserved c = (runs_next _ _ _ _ _ _ c.loop-i.invariant.0 c.loop-i-test.true c.more-count.ensures.0, omega (arith, c.loop-i.invariant.1), omega (arith, c.loop-i.invariant.2, c.more-count.ensures.1))

pub returns : goal.returns
returns c = runs-end _ _ _ _ _ c.loop-i.invariant.0 c.loop-i-test.false
