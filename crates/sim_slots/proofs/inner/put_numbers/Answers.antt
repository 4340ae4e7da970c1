use Rattle.sim_slots.specs.Model.Slots.{put_tape}
use Rattle.sim_slots.proofs.inner.put_numbers.Goals as goal

pub returns : goal.returns
unfolding put_tape
returns c = cc
