use Rattle.notation.proofs.Facts.Tests.{tests}
use Rattle.run_checks.proofs.inner.sizes.blank_fits.Goals as goal

pub returns-then-has : goal.returns-then-has
returns-then-has c = search tests

pub returns : goal.returns
returns c = search tests
