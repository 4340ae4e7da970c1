use Rattle.std.proofs.Common.{rules}
use Rattle.notation.proofs.Facts.Tests.{tests}
use Rattle.rle_stack.proofs.inner.weight.Goals as goal

pub returns-then-symbol-eq0 : goal.returns-then-symbol-eq0
returns-then-symbol-eq0 c = (search tests, search rules)

pub returns : goal.returns
returns c = (search tests, search rules)
