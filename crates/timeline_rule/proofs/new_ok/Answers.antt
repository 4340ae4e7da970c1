use Rattle.notation.proofs.Facts.Tests.{tests, via}
use Rattle.timeline_rule.specs.Model.Timeline.{new_ok}
use Rattle.timeline_rule.proofs.new_ok.Goals as goal

pub returns-then-not-within : goal.returns-then-not-within
unfolding new_ok
returns-then-not-within c = search (tests, via) depth 9

pub returns : goal.returns
unfolding new_ok
returns c = search (tests, via) depth 9
