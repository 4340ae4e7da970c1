use Rattle.std.proofs.Common.{rules, arith}
use Rattle.tape_cells.proofs.Facts.LoopCases.{fresh_is}
use Rattle.tape_cells.proofs.inner.fresh.Goals as goal

pub returns : goal.returns
returns c = fresh_is _ _ _ _ _ _ _ c.requires (omega arith) (omega arith) (search rules) c.copy_from_slice.ensures.after (search rules)
