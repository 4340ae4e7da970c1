use Rattle.std.proofs.Common.{rules}
use Rattle.timeline_rule.proofs.Facts.DueCases.{due-near}
use Rattle.timeline_rule.proofs.inner.due.Goals as goal

pub returns : goal.returns
returns c = search (rules, due-near)
