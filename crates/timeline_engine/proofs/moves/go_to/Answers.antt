use Rattle.timeline_rule.proofs.Facts.GoCases.{on_goes, to_here, to_back, to_on}
use Rattle.timeline_engine.proofs.moves.go_to.Goals as goal

pub returns-then-target-here-clause-went : goal.returns-then-target-here-clause-went
returns-then-target-here-clause-went g c =
    to_here g.E.Engine.kind _ _ _ _ _ _ _ _ _ c.advance.ensures.advanced (rw c.steps-here.ensures at c.if-target-here.true)

pub returns-then-target-here-2-clause-went : goal.returns-then-target-here-2-clause-went
returns-then-target-here-2-clause-went g c =
    to_back g.E.Engine.kind _ _ _ _ _ _ _ _ (rw c.steps-here.ensures at c.if-target-here.false) c.go_back.ensures.went (rw c.steps-here.ensures at c.if-target-here-2.true)

pub returns-clause-went : goal.returns-clause-went
returns-clause-went g c =
    to_on g.E.Engine.kind _ _ _ _ _ _ _ _ (rw c.steps-here.ensures at c.if-target-here.false) (on_goes g.E.Engine.kind _ _ _ _ _ _ _ c.advance_to.ensures.went) (rw c.steps-here.ensures at c.if-target-here-2.false)
