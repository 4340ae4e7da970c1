use Rattle.sim_slots.specs.Model.Slots.{tape_at}
use Rattle.sim_slots.proofs.inner.get_tape.Goals as goal

pub returns : goal.returns
unfolding tape_at
returns c = cc
