use Rattle.timeline_rule.proofs.Facts.CheckCases.{first_settings, first_store, first_passed}
use Rattle.timeline_rule.proofs.inner.first_check.Goals as goal

pub returns-then-not-new_ok : goal.returns-then-not-new_ok
returns-then-not-new_ok c = search first_settings

pub returns-then-slots-most : goal.returns-then-slots-most
returns-then-slots-most c = search first_store

pub returns : goal.returns
returns c = search first_passed
