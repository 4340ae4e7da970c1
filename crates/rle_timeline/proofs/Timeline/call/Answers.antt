use Rattle.timeline_rule.proofs.Facts.WhichCases.{which_on}
use Rattle.rle_slots.specs.Model.Kind.{chain_kind}
use Rattle.rle_timeline.proofs.Timeline.call.Goals as goal

pub returns : goal.returns
returns c = which_on chain_kind _ _ _ _ _ _ _ c.seek.ensures c.target_of-target.ensures
