use Rattle.std.proofs.Common.{rules}
use native.Mathlib.Omega.{arith}
use Rattle.rle_stack.proofs.Facts.Sides.{sum_over, sum_next, sum_none, sum_all}
use Rattle.rle_stack.proofs.inner.cells.Goals as goal

pub loop-i-init : goal.loop-i-init
loop-i-init g c = (sum_none _, omega arith)

pub returns-then-most-sum : goal.returns-then-most-sum
returns-then-most-sum g c =
    rw (← c.side.view_is) (sum_over _ _ _ _ _ c.loop-i.invariant.0 (omega arith) c.loop-i.invariant.1 (omega (arith, c.at-len.ensures, c.if-most-sum.true)))

pub loop-i-preserved : goal.loop-i-preserved
loop-i-preserved g c = (omega (arith, c.at-len.ensures, sum_next _ _ _ c.loop-i.invariant.0), search rules)

pub returns : goal.returns
returns g c = rw (← c.side.view_is) (search (sum_all, rules))
