use Rattle.rle_macro.proofs.Facts.MacroStepCases.{carry_made}
use Rattle.rle_macro.proofs.inner.macro_step.carry.Goals as goal

pub returns-clause-carried : goal.returns-clause-carried
returns-clause-carried c =
    carry_made _ _ _ _ _ _ _ _ c.push.ensures.pushed c.take.ensures.taken c.top-cur.ensures c.take-2.ensures.taken
