use Rattle.notation.proofs.Facts.Tests.{tests}
use Rattle.sim.proofs.questions.cells_at.Goals as goal

pub returns-then-i-eq0 : goal.returns-then-i-eq0
returns-then-i-eq0 c = search tests

pub returns-then-i-eq1 : goal.returns-then-i-eq1
returns-then-i-eq1 c = search tests

pub returns : goal.returns
returns c = search tests
