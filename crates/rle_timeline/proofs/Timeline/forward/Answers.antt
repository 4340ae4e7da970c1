use Rattle.timeline_rule.proofs.Facts.CallCases.{forward_on}
use Rattle.rle_slots.specs.Model.Kind.{chain_kind}
use Rattle.rle_timeline.proofs.Timeline.forward.Goals as goal

pub returns : goal.returns
returns c = forward_on chain_kind _ _ _ _ _ _ c.seek.ensures c.forward_to-target.ensures
