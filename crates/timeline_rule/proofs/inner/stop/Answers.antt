use Rattle.timeline_rule.proofs.Facts.DueCases.{stop_target, stop_due}
use Rattle.timeline_rule.proofs.inner.stop.Goals as goal

pub returns-then-target-d : goal.returns-then-target-d
returns-then-target-d c = search stop_target

pub returns : goal.returns
returns c = search stop_due
