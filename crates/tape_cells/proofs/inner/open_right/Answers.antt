use Rattle.std.proofs.Common.{rules, arith}
use Rattle.tape_cells.proofs.Facts.LoopCases.{blanked-part}
use Rattle.tape_cells.proofs.inner.open_right.Goals as goal

pub returns : goal.returns
returns c = blanked-part _ _ _ _ _ (omega arith) (omega arith) (search rules)
