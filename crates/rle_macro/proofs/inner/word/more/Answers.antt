use Rattle.std.proofs.Common.{rules}
use Rattle.notation.proofs.Facts.Tests.{tests}
use Rattle.rle_macro.proofs.inner.word.more.Goals as goal

pub returns-then-s-top : goal.returns-then-s-top
returns-then-s-top c = (search tests, search rules)

pub returns : goal.returns
returns c = (search tests, search rules)
