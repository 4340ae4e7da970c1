use Rattle.sim.proofs.Facts.BurstCases.{same_run_one}
use Rattle.sim.proofs.Facts.WideBurstSteps.{same_run_several}
use Rattle.sim.proofs.Simulator.burst.Goals as goal

pub returns-then-is_some : goal.returns-then-is_some
returns-then-is_some c = same_run_one _ _ _ _ _ _ _ _ _ _ _ _ c.burst_one.ensures

pub returns-then-m-eq1 : goal.returns-then-m-eq1
returns-then-m-eq1 c = same_run_one _ _ _ _ _ _ _ _ _ _ _ _ c.burst_one-then-m-eq1.ensures

pub returns : goal.returns
returns c = same_run_several _ _ _ _ _ _ _ _ _ _ _ _ _ _ _ _ _ c.if-m-eq1.false c.requires.run_ok c.wide.ensures c.burst_several-at.ensures c.onward.ensures
