use Rattle.sim_slots.specs.Model.Slots.{sim_in}
use Rattle.sim_slots.proofs.inner.get_sim.Goals as goal

pub returns : goal.returns
unfolding sim_in
returns c = cc
