use Rattle.notation.proofs.Facts.Tests.{tests}
use Rattle.run_checks.proofs.inner.look.rewrites.Goals as goal

pub returns-then-w0-r0 : goal.returns-then-w0-r0
returns-then-w0-r0 c = search tests

pub returns-then-w1-r1 : goal.returns-then-w1-r1
returns-then-w1-r1 c = search tests

pub returns : goal.returns
returns c = search tests
