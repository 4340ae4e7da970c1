use Rattle.sim.specs.Model.Operations.{bare_sim, hand_back}
use Rattle.sim.proofs.Simulator.bare.Goals as goal

pub returns : goal.returns
unfolding bare_sim hand_back
returns c = c.hand_back.ensures
