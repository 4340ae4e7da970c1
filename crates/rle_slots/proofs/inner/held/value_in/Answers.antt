use Rattle.rle_slots.specs.Model.Slots.{value_in}
use Rattle.rle_slots.proofs.inner.held.value_in.Goals as goal

pub returns : goal.returns
unfolding value_in
returns c = cc
