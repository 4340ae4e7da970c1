use Rattle.notation.proofs.Facts.Tests.{tests}
use Rattle.sim_slots.proofs.inner.part_fits_if.Goals as goal

pub returns-then-not-has : goal.returns-then-not-has
returns-then-not-has c = search tests

pub returns-else-not-has : goal.returns-else-not-has
returns-else-not-has c = search tests
