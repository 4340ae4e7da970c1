use Rattle.std.proofs.Common.{sym, subst, ◌<◌}
use native.Mathlib.Omega.{arith}
use Rattle.notation.specs.Limits.{raised_zero}
use Rattle.rle_stack.specs.Model.{Side, sum_of, cells_of}
use Rattle.rle_stack.proofs.Facts.QuestionCases.{near_under, near_next}
use Rattle.rle_stack.proofs.inner.near.Goals as goal

pub overflow_add-result : goal.overflow_add-result
overflow_add-result g c =
    let asked : (0 < c.side.inside.count) × (sum_of (g.L.Lengths.list c.side.inside.lengths) c.side.inside.count < raised_zero) = subst (λ (x : Side). (0 < x.count) × (cells_of x < raised_zero)) (sym c.side.view_is) c.requires in
    omega (arith, c.at.ensures, asked.1, (near_under c.side.inside.symbols.now (g.L.Lengths.list c.side.inside.lengths) c.side.inside.count _ asked.0 c.top.ensures c.if-top-eq0.true).1)

pub returns-then-top-eq0 : goal.returns-then-top-eq0
returns-then-top-eq0 g c = rw (← c.side.view_is, c.at.ensures) (near_under _ _ _ _ (subst (λ (x : Side). 0 < x.count) (sym c.side.view_is) c.requires.0) c.top.ensures c.if-top-eq0.true)

pub returns : goal.returns
returns g c = rw (← c.side.view_is) (near_next _ _ _ _ (subst (λ (x : Side). 0 < x.count) (sym c.side.view_is) c.requires.0) c.top.ensures c.if-top-eq0.false)
