use Rattle.timeline_rule.proofs.Facts.DueCases.{due_tells}
use Rattle.timeline_rule.proofs.inner.is_due.Goals as goal

pub returns : goal.returns
returns c = search due_tells
