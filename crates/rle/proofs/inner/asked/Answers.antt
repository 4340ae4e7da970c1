use Rattle.std.proofs.Common.{◌∙◌}
use Rattle.rle.proofs.Facts.EngineCases.{asked_loops, asked_none}
use Rattle.rle.proofs.inner.asked.Goals as goal

pub returns-then-loops : goal.returns-then-loops
returns-then-loops c = search asked_loops

pub returns-else-loops : goal.returns-else-loops
returns-else-loops c = c.if-loops.false ∙ asked_none _ _ c.if-loops.false
