use Rattle.sim.specs.Model.Engine.{task, conf}
use Rattle.sim.proofs.Facts.TurnCases.{RunInv}
use Rattle.sim.proofs.Simulator.run_bursts.Given as goal

abbrev pub invariant-loop-outcome : goal.invariant-loop-outcome
invariant-loop-outcome l =
    RunInv (task l.job.m l.job.table.now l.job.proves l.job.rule) l.job.stride l.fuel (conf l.initial.self l.initial.c0 l.initial.c1 l.initial.c2) l.self l.c0 l.c1 l.c2 l.left

abbrev pub decreases-loop-outcome : goal.decreases-loop-outcome
decreases-loop-outcome l = l.left
