use Rattle.std.proofs.Common.{refl}
use native.Mathlib.Omega.{arith}
use Rattle.rle_stack.proofs.Facts.QuestionCases.{symbol_here, symbol_further, symbol_none}
use Rattle.rle_stack.proofs.inner.Runs.symbol_at.Goals as goal

pub loop-i-init : goal.loop-i-init
loop-i-init g c = rw (← c.self.view_is) refl

pub returns-then-d-len : goal.returns-then-d-len
returns-then-d-len g c = symbol_here _ _ _ _ _ c.loop-i.invariant (omega arith) (omega (arith, c.at-len.ensures, c.if-d-len.true))

pub loop-i-preserved : goal.loop-i-preserved
loop-i-preserved g c =
    rw c.at-len.ensures (symbol_further _ _ _ _ _ c.loop-i.invariant (omega arith) (omega (arith, c.at-len.ensures, c.if-d-len.false)))

pub returns : goal.returns
returns g c = symbol_none _ _ _ _ _ c.loop-i.invariant (omega arith)
