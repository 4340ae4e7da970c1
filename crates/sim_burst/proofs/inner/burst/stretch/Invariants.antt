use Rattle.sim_burst.specs.Model.Burst.{Reached, RowOk}
use Rattle.sim_burst.proofs.inner.burst.stretch.Given as goal

abbrev pub invariant-loop-at : goal.invariant-loop-at
invariant-loop-at g l = Reached (g.E.Entries.known l.fn.by.entries l.fn.by.k) l.fn.by.proves l.fn.by.stop l.fn.by.k l.fn.by.len l.initial.at l.initial.cells l.at l.cells × RowOk (g.E.Entries.known l.fn.by.entries l.fn.by.k) l.fn.by.k l.row l.at.state

abbrev pub decreases-loop-at : goal.decreases-loop-at
decreases-loop-at g l = l.at.left
