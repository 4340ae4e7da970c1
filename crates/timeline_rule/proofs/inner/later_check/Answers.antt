use Rattle.timeline_rule.proofs.Facts.CheckCases.{later_settings_holds, later_store, later_limit, later_passed}
use Rattle.timeline_rule.proofs.inner.later_check.Goals as goal

pub returns-then-not-ok : goal.returns-then-not-ok
returns-then-not-ok c = search later_settings_holds

pub returns-then-slots-t : goal.returns-then-slots-t
returns-then-slots-t c = search later_store

pub returns-then-target-gt-STEPS : goal.returns-then-target-gt-STEPS
returns-then-target-gt-STEPS c = search later_limit

pub returns : goal.returns
returns c = search later_passed
