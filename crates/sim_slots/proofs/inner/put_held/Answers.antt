use Rattle.sim_slots.specs.Model.Slots.{put_held}
use Rattle.sim_slots.proofs.inner.put_held.Goals as goal

pub returns : goal.returns
unfolding put_held
returns c = cc
