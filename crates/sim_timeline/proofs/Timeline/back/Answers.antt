use Rattle.timeline_rule.proofs.Facts.CallCases.{back_on}
use Rattle.sim_slots.specs.Model.Kind.{plain_kind}
use Rattle.sim_timeline.proofs.Timeline.back.Goals as goal

pub returns : goal.returns
returns c = back_on plain_kind _ _ _ _ _ _ c.seek.ensures c.back_to-target.ensures
