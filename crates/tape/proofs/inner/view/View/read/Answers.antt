use Rattle.notation.proofs.Facts.Tests.{tests}
use Rattle.tape.specs.Model.Moves.{read_of}
use Rattle.tape.proofs.inner.view.View.read.Goals as goal

pub returns-then-head-self : goal.returns-then-head-self
unfolding read_of
returns-then-head-self c = rw (← c.self.view_is) (search tests)

pub returns : goal.returns
unfolding read_of
returns c = rw (← c.self.view_is) (search tests)
