use native.Mathlib.Omega.{arith}
use Rattle.rle_stack.proofs.Facts.Sides.{take-fewer}
use Rattle.rle_stack.proofs.inner.Stack.take.Goals as goal

pub invariant_of-self : goal.invariant_of-self
invariant_of-self c = record { live = (omega (arith, take-fewer _ _ _ (c.take-self.ensures c.args.self.now.symbols.now)), omega arith) }
