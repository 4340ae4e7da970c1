use Rattle.std.proofs.Common.{◌∙◌, ne_eqb}
use Rattle.rle_macro.proofs.Facts.MacroStepCases.{walks_reads, walks_meets}
use Rattle.rle_macro.proofs.inner.macro_step.walks.Goals as goal

pub returns-then-cur-eq0 : goal.returns-then-cur-eq0
returns-then-cur-eq0 c = search walks_meets

pub returns-else-cur-eq0 : goal.returns-else-cur-eq0
returns-else-cur-eq0 c = ne_eqb _ _ c.if-cur-eq0.false ∙ walks_reads _ _ c.if-cur-eq0.false
