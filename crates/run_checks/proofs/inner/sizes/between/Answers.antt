use Rattle.notation.proofs.Facts.Tests.{tests}
use Rattle.run_checks.proofs.inner.sizes.between.Goals as goal

pub returns-then-n-least : goal.returns-then-n-least
returns-then-n-least c = search tests

pub returns : goal.returns
returns c = search tests
