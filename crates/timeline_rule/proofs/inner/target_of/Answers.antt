use Rattle.timeline_rule.proofs.Facts.WhichCases.{target_seek, target_forward, target_back}
use Rattle.timeline_rule.proofs.inner.target_of.Goals as goal

pub returns-then-which-eq0 : goal.returns-then-which-eq0
returns-then-which-eq0 c = search target_seek

pub returns-then-which-eq1 : goal.returns-then-which-eq1
returns-then-which-eq1 c = search target_forward

pub returns : goal.returns
returns c = search target_back
