use Rattle.std.proofs.Common.{◌≡◌, length-set}
use native.Mathlib.Omega.{arith}
use Rattle.rle_stack.specs.Model.{side, push_of}
use Rattle.rle_stack.proofs.Facts.Sides.{sum_last}
use Rattle.rle_stack.proofs.Facts.SideCases.{push-none, push_grows, push_adds, has-place}
use Rattle.rle_stack.proofs.inner.to_write.push.Goals as goal

pub returns-then-count-eq0-clause-pushed : goal.returns-then-count-eq0-clause-pushed
returns-then-count-eq0-clause-pushed c =
    let side0 = c.args.side.now in
    let none : side side0.symbols.now side0.lengths.now 0 ≡ push_of c.args.s c.args.n (side side0.symbols.now side0.lengths.now side0.count) = push-none _ _ _ _ _ _ c.top.ensures c.if-s-top.true c.if-count-eq0.true in
    grind (arith, none, c.if-count-eq0.true)

pub overflow_add-side : goal.overflow_add-side
overflow_add-side c = omega (arith, c.requires.n_bound, sum_last c.args.side.now.count c.args.side.now.lengths.now c.if-count-eq0.false)

pub returns-then-s-top-clause-pushed : goal.returns-then-s-top-clause-pushed
returns-then-s-top-clause-pushed c = push_grows _ _ _ _ _ _ c.top.ensures c.if-s-top.true c.if-count-eq0.false

pub bounds-symbols-count : goal.bounds-symbols-count
bounds-symbols-count c = omega (arith, has-place _ _ _ _ _ _ c.top.ensures c.if-s-top.false c.requires.place)

pub bounds-side-count-2 : goal.bounds-side-count-2
bounds-side-count-2 c = omega (arith, has-place _ _ _ _ _ _ c.top.ensures c.if-s-top.false c.requires.place)

pub returns-clause-pushed : goal.returns-clause-pushed
returns-clause-pushed c = push_adds _ _ _ _ _ _ c.top.ensures c.if-s-top.false

pub invariant_of-side-3 : goal.invariant_of-side-3
invariant_of-side-3 c =
    let place = has-place _ _ _ _ _ _ c.top.ensures c.if-s-top.false c.requires.place in
    record {
      live = (
        omega (arith, place),
        omega (arith, length-set c.args.side.now.symbols.now c.args.side.now.count c.args.s, length-set c.args.side.now.lengths.now c.args.side.now.count c.args.n),
      );
    }
