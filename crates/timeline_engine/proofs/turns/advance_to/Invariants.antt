use Rattle.std.proofs.Common.{◌≡◌, ◌-◌, length}
use Rattle.timeline_rule.specs.Invariants.{timeline_of, LoopInv, Fits}
use Rattle.timeline_engine.proofs.turns.advance_to.Given as goal

abbrev pub invariant-loop-m : goal.invariant-loop-m
invariant-loop-m g l =
    let E = g.E.Engine in
    (LoopInv E.kind l.m l.table l.size (Fits E.kind l.m l.table l.size) l.target (timeline_of E.kind (E.state l.initial.engine) l.initial.store l.initial.times) (timeline_of E.kind (E.state l.engine) l.store l.times))
    × (E.names l.engine ≡ E.names l.initial.engine)
    × (length l.store ≡ length l.initial.store)

abbrev pub decreases-loop-m : goal.decreases-loop-m
decreases-loop-m g l = let E = g.E.Engine in l.target - E.kind.now (E.state l.engine)
