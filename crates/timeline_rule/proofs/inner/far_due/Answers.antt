use Rattle.std.proofs.Common.{rules}
use Rattle.timeline_rule.proofs.Facts.DueCases.{due_yes, due_no}
use Rattle.timeline_rule.proofs.inner.far_due.Goals as goal

pub returns-then-count-room : goal.returns-then-count-room
returns-then-count-room c = due_yes c.args.first c.args.count c.args.every (search rules)

pub returns-else-count-room : goal.returns-else-count-room
returns-else-count-room c = due_no c.args.first c.args.count c.args.every (search rules)
