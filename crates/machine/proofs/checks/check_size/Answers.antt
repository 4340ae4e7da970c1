use Rattle.machine.specs.Model.Check.{size_check}
use Rattle.notation.proofs.Facts.Tests.{tests}
use Rattle.machine.proofs.checks.check_size.Goals as goal

pub returns-then-size-count : goal.returns-then-size-count
unfolding size_check
returns-then-size-count c = search tests

pub returns : goal.returns
unfolding size_check
returns c = search tests
