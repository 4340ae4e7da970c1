use Rattle.std.proofs.Common.{rules}
use Rattle.notation.proofs.Facts.Tests.{tests}
use Rattle.tape_cells.specs.Growth.{extra}
use Rattle.tape_cells.proofs.inner.extra.Goals as goal

pub returns-then-len-cap : goal.returns-then-len-cap
unfolding extra
returns-then-len-cap c = (search tests, search rules)

pub returns : goal.returns
unfolding extra
returns c = (search tests, search rules)
