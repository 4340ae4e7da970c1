use Rattle.timeline_rule.proofs.Facts.WhichCases.{which_on}
use Rattle.sim_slots.specs.Model.Kind.{plain_kind}
use Rattle.sim_timeline.proofs.Timeline.call.Goals as goal

pub returns : goal.returns
returns c = which_on plain_kind _ _ _ _ _ _ _ c.seek.ensures c.target_of-target.ensures
