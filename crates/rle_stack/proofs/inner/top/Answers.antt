use Rattle.notation.proofs.Facts.Tests.{tests}
use Rattle.rle_stack.specs.Model.{symbol_under}
use Rattle.rle_stack.proofs.inner.top.Goals as goal

pub returns-then-count-eq0 : goal.returns-then-count-eq0
unfolding symbol_under
returns-then-count-eq0 c = search tests

pub returns : goal.returns
unfolding symbol_under
returns c = search tests
