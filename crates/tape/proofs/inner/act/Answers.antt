use native.Mathlib.Omega.{arith}
use mathlib.Core.Path.{refl}
use Rattle.tape.proofs.Facts.MoveCases.{act_none, act_inside, act_grown, grown_inside}
use Rattle.tape.proofs.inner.act.Goals as goal

pub returns-then-t-head : goal.returns-then-t-head
returns-then-t-head c = act_none _ _ _ _ c.if-t-head.true

pub shifted-requires : goal.shifted-requires
shifted-requires c = grown_inside _ _ _ _ _ _ _ _ c.grow-grown.ensures refl c.leaves.ensures c.if-leaves.true c.requires.d_value c.requires.tape_ok

pub returns-then-leaves : goal.returns-then-leaves
returns-then-leaves c = act_grown _ _ _ _ _ _ _ (omega arith) refl c.leaves.ensures _ _ c.if-leaves.true c.grow-grown.ensures c.shifted.ensures

pub returns : goal.returns
returns c = act_inside _ _ _ _ _ _ _ (omega arith) refl c.leaves.ensures c.if-leaves.false c.shifted-2.ensures
