use Rattle.sim_burst_wide.specs.Model.{Carried}
use Rattle.sim_burst_wide.proofs.inner.burst_several.Given as goal

abbrev pub invariant-loop-at : goal.invariant-loop-at
invariant-loop-at l =
    Carried l.by.table.now l.by.stop l.by.k l.by.stride l.initial.at l.initial.c0 l.initial.c1 l.initial.c2 l.at l.c0 l.c1 l.c2

abbrev pub decreases-loop-at : goal.decreases-loop-at
decreases-loop-at l = l.at.left
