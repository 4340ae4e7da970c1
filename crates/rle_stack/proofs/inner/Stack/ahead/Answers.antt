use Rattle.notation.proofs.Facts.Tests.{tests}
use Rattle.rle_stack.specs.Model.{ahead_of}
use Rattle.rle_stack.proofs.inner.Stack.ahead.Goals as goal

pub returns-then-self-eq0 : goal.returns-then-self-eq0
unfolding ahead_of
returns-then-self-eq0 c = search tests

pub returns-then-self-a : goal.returns-then-self-a
unfolding ahead_of
returns-then-self-a c = search tests

pub returns-else-self-a : goal.returns-else-self-a
unfolding ahead_of
returns-else-self-a c = search tests
