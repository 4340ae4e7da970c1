use Rattle.sim.specs.Model.Operations.{value_check}
use Rattle.notation.proofs.Facts.Tests.{tests, via}
use Rattle.sim.proofs.Simulator.value_check.Goals as goal

pub returns-then-not-sizes_fit : goal.returns-then-not-sizes_fit
unfolding value_check
returns-then-not-sizes_fit c = search (tests, via)

pub returns-then-not-fits : goal.returns-then-not-fits
unfolding value_check
returns-then-not-fits c = search (tests, via)

pub returns : goal.returns
unfolding value_check
returns c = search (tests, via)
