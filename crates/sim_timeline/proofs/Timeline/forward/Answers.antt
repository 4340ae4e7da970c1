use Rattle.timeline_rule.proofs.Facts.CallCases.{forward_on}
use Rattle.sim_slots.specs.Model.Kind.{plain_kind}
use Rattle.sim_timeline.proofs.Timeline.forward.Goals as goal

pub returns : goal.returns
returns c = forward_on plain_kind _ _ _ _ _ _ c.seek.ensures c.forward_to-target.ensures
