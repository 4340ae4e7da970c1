use Rattle.sim_burst.specs.Model.Burst.{Reached}
use Rattle.sim_burst.proofs.inner.burst.burst.Given as goal

abbrev pub invariant-loop-at : goal.invariant-loop-at
invariant-loop-at g l = Reached (g.E.Entries.known l.by.entries l.by.k) l.by.proves l.by.stop l.by.k l.by.len l.initial.at l.initial.cells l.at l.cells

abbrev pub decreases-loop-at : goal.decreases-loop-at
decreases-loop-at g l = l.at.left
