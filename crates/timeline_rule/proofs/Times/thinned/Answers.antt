use Rattle.timeline_rule.proofs.Facts.DueCases.{thin_keep, thin_half}
use Rattle.timeline_rule.proofs.Times.thinned.Goals as goal

pub returns-then-n-self : goal.returns-then-n-self
returns-then-n-self c = thin_keep _ _ _ c.if-n-self.true

pub returns : goal.returns
returns c = thin_half _ _ _ _ c.if-n-self.false c.thin.ensures
