use Rattle.timeline_rule.proofs.Facts.CallCases.{back_on}
use Rattle.rle_slots.specs.Model.Kind.{chain_kind}
use Rattle.rle_timeline.proofs.Timeline.back.Goals as goal

pub returns : goal.returns
returns c = back_on chain_kind _ _ _ _ _ _ c.seek.ensures c.back_to-target.ensures
