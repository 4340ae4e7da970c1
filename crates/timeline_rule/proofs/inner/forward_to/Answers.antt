use Rattle.notation.proofs.Facts.Tests.{tests}
use Rattle.timeline_rule.specs.Model.Due.{forward_to}
use Rattle.timeline_rule.proofs.inner.forward_to.Goals as goal

pub returns-then-p-gt-STEPS : goal.returns-then-p-gt-STEPS
unfolding forward_to
returns-then-p-gt-STEPS c = search tests depth 9

pub returns-then-p-n : goal.returns-then-p-n
unfolding forward_to
returns-then-p-n c = search tests depth 9

pub returns : goal.returns
unfolding forward_to
returns c = search tests depth 9
