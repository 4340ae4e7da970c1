use Rattle.sim.specs.Model.Operations.{sim_fits}
use Rattle.notation.proofs.Facts.Tests.{tests, via}
use Rattle.sim.proofs.Simulator.fits.Goals as goal

pub returns-then-m-q : goal.returns-then-m-q
unfolding sim_fits
returns-then-m-q c = search (tests, via) depth 9

pub returns-then-not-steps_fit : goal.returns-then-not-steps_fit
unfolding sim_fits
returns-then-not-steps_fit c = search (tests, via) depth 9

pub returns-then-not-fits : goal.returns-then-not-fits
unfolding sim_fits
returns-then-not-fits c = search (tests, via) depth 9

pub returns-then-not-tape_fits : goal.returns-then-not-tape_fits
unfolding sim_fits
returns-then-not-tape_fits c = search (tests, via) depth 9

pub returns : goal.returns
unfolding sim_fits
returns c = search (tests, via) depth 9
