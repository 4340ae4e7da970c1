use Rattle.timeline_engine.proofs.Facts.Moves.{back_refused, back_ready, back_done}
use Rattle.timeline_engine.proofs.moves.go_back.Goals as goal

pub returns-then-not-restore-clause-went : goal.returns-then-not-restore-clause-went
returns-then-not-restore-clause-went g c =
    back_refused g.E.Engine.kind _ _ _ _ _ _ _ _ c.slot_for-i.ensures _ (rw c.if-not-restore.true at c.restore.ensures.restored)

pub advance_to-requires : goal.advance_to-requires
advance_to-requires g c =
    let S = g.met.E.Engine.sound _ _ _ (λ j. (c.type_inv.table j).fits) in
    back_ready g.E.Engine.kind _ _ _ _ _ _ _ _ c.slot_for-i.ensures _ (rw c.if-not-restore.false at c.restore.ensures.restored) S c.requires

pub returns-clause-went : goal.returns-clause-went
returns-clause-went g c =
    back_done g.E.Engine.kind _ _ _ _ _ _ _ _ c.slot_for-i.ensures _ (rw c.if-not-restore.false at c.restore.ensures.restored) _ _ c.advance_to.ensures.went
