use Rattle.std.proofs.Common.{rules}
use Rattle.rle.proofs.Facts.EngineCases.{loops_leaves, loops_keeps}
use Rattle.rle.proofs.inner.loops_on.Goals as goal

pub returns-then-ne : goal.returns-then-ne
returns-then-ne c = loops_leaves _ c.args.a _ _ _ (search rules)

pub returns : goal.returns
returns c = loops_keeps _ c.args.a _ _ _ _ (search rules) c.loops.ensures
