use Rattle.capi_numbers.specs.Model.Parts.{action_from}
use Rattle.capi_numbers.proofs.parts.put_action_at.Goals as goal

pub returns : goal.returns
unfolding action_from
returns c = cc
