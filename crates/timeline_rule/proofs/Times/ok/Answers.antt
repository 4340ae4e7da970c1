use Rattle.std.proofs.Common.{ap, not}
use Rattle.notation.proofs.Facts.Tests.{tests, via}
use Rattle.notation.specs.Limits.{interval_most}
use Rattle.timeline_rule.specs.Model.Timeline.{times_ok}
use Rattle.timeline_rule.proofs.Facts.DueCases.{within_low, ok_last}
use Rattle.timeline_rule.proofs.Times.ok.Goals as goal

pub returns-then-not-within : goal.returns-then-not-within
unfolding times_ok
returns-then-not-within c = search (tests, via) depth 9

pub returns-then-not-within-2 : goal.returns-then-not-within-2
unfolding times_ok
returns-then-not-within-2 c = search (tests, via) depth 9

pub returns-then-not-within-3 : goal.returns-then-not-within-3
unfolding times_ok
returns-then-not-within-3 c = search (tests, via) depth 9

pub returns-then-p-self : goal.returns-then-p-self
unfolding times_ok
returns-then-p-self c = search (tests, via) depth 9

pub due-d-requires-clause-le_every : goal.due-d-requires-clause-le_every
due-d-requires-clause-le_every c = within_low _ 1 interval_most _ c.within-2.ensures (ap not c.if-not-within-2.false)

pub returns : goal.returns
unfolding times_ok
returns c = search (tests, via, ok_last, within_low) depth 12
