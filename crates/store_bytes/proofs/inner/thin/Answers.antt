use Rattle.std.proofs.Common.{rules, arith, refl}
use Rattle.store_bytes.proofs.Facts.LoopCases.{thin_turn}
use Rattle.store_bytes.specs.Model.{thin_by}
use Rattle.store_bytes.proofs.inner.thin.Goals as goal

pub loop-i-init : goal.loop-i-init
unfolding thin_by
loop-i-init c = (omega arith, refl, refl)

pub loop-i-preserved : goal.loop-i-preserved
loop-i-preserved c = (omega arith, search rules, search thin_turn)
