use native.Mathlib.Omega.{arith}
use Rattle.symbol.proofs.Facts.Places.{index_in, index_before, index_past}
use Rattle.symbol.proofs.position.index_of_raised.Goals as goal

pub returns-then-index-len : goal.returns-then-index-len
returns-then-index-len c = index_in _ _ _ _ _ (omega arith) (omega arith)

pub returns-else-index-len : goal.returns-else-index-len
returns-else-index-len c = index_past _ _ _ _ (omega arith)

pub returns-else-below-origin : goal.returns-else-below-origin
returns-else-below-origin c = index_before _ _ _ _ (omega arith)

pub returns-then-above-len : goal.returns-then-above-len
returns-then-above-len c = index_in _ _ _ _ _ (omega arith) (omega arith)

pub returns-else-above-len : goal.returns-else-above-len
returns-else-above-len c = index_past _ _ _ _ (omega arith)

pub returns-else-origin-len : goal.returns-else-origin-len
returns-else-origin-len c = index_past _ _ _ _ (omega arith)
