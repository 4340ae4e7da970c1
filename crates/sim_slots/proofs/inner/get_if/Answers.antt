use Rattle.notation.proofs.Facts.Tests.{tests}
use Rattle.sim_slots.proofs.inner.get_if.Goals as goal

pub returns-then-has : goal.returns-then-has
returns-then-has c = search tests

pub returns-else-has : goal.returns-else-has
returns-else-has c = search tests
