use Rattle.sim.specs.Model.Operations.{hand_back}
use mathlib.Core.Path.{refl}
use Rattle.sim.proofs.Simulator.hand_back.Goals as goal

pub returns : goal.returns
unfolding hand_back
returns c = rw (← c.tape_or.ensures, ← c.tape_or-2.ensures) refl
