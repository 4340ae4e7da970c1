use Rattle.std.proofs.Common.{sym, subst, ◌<◌, ◌≤◌, ◌≡◌, ℕ, eqb, get_or}
use Rattle.notation.specs.Choice.{pick}
use native.Mathlib.Omega.{arith}
use Rattle.notation.specs.Limits.{raised_zero}
use Rattle.rle_stack.specs.Model.{Side, cells_of}
use Rattle.rle_stack.proofs.Facts.QuestionCases.{written_start, written_room, written_next, written_all}
use Rattle.rle_stack.proofs.inner.written.Goals as goal

pub loop-i-init : goal.loop-i-init
loop-i-init g c = written_start _ _

pub overflow_add-sum : goal.overflow_add-sum
overflow_add-sum g c =
    omega (arith, subst (λ (x : Side). cells_of x < raised_zero) (sym c.side.view_is) c.requires, written_room c.side.inside.symbols.now (g.L.Lengths.list c.side.inside.lengths) _ c.side.inside.count _ _ c.loop-i.invariant (subst (λ (z : ℕ). (c.weight-sum.result ≡ pick (eqb (get_or c.side.inside.symbols.now c.loop-i.i 0) 0) 0 z) × (c.weight-sum.result ≤ z)) c.at.ensures c.weight-sum.ensures) (omega arith))

pub loop-i-preserved : goal.loop-i-preserved
loop-i-preserved g c = written_next _ _ _ _ _ c.loop-i.invariant (subst (λ (z : ℕ). (c.weight-sum.result ≡ pick (eqb (get_or c.side.inside.symbols.now c.loop-i.i 0) 0) 0 z) × (c.weight-sum.result ≤ z)) c.at.ensures c.weight-sum.ensures)

pub returns : goal.returns
returns g c = rw (← c.side.view_is) (written_all _ _ _ _ _ c.loop-i.invariant (omega arith) (omega arith))
