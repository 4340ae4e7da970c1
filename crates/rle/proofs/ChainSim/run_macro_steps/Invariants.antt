use Rattle.run_rules.specs.Model.Task.{task}
use Rattle.rle.specs.Model.Engine.{conf}
use Rattle.rle.specs.Invariants.{Going}
use Rattle.rle.proofs.Facts.RunCases.{Tied, written_on}
use Rattle.rle.proofs.ChainSim.run_macro_steps.Given as goal

abbrev pub invariant-loop-outcome : goal.invariant-loop-outcome
invariant-loop-outcome l =
    Going (task l.t.m l.t.entries.now l.proves l.rule) l.t.stride l.initial.left.places l.initial.right.places (conf l.initial.self l.fn.ls l.fn.ll l.fn.rs l.fn.rl) l.fuel (written_on l.self l.left l.right) l.rest
    × Tied l.self l.initial.left l.initial.right l.left l.right

abbrev pub decreases-loop-outcome : goal.decreases-loop-outcome
decreases-loop-outcome l = l.rest
