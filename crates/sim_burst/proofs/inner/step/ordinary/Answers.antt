use Rattle.std.specs.Prelude.{◌<◌}
use native.Mathlib.Omega.{arith}
use Rattle.sim_burst.specs.Model.Burst.{sees_left, sees_right}
use Rattle.sim_burst.proofs.inner.step.ordinary.Goals as goal

pub returns-then-entry-eq0 : goal.returns-then-entry-eq0
returns-then-entry-eq0 c = let l : c.left_of-left.result < c.args.at.head = omega arith in sees_left _ c.if-entry-eq0.true l (c.left_of-left.ensures.seen l)

pub returns : goal.returns
returns c =
    let l : c.right_of-right.result < c.args.len = omega arith in
    sees_right _ c.if-entry-eq0.false c.if-entry-eq2.false (c.right_of-right.ensures.above l) l (c.right_of-right.ensures.seen l)
