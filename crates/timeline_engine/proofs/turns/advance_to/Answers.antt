use Rattle.std.proofs.Common.{◌∙◌, arith}
use Rattle.timeline_engine.proofs.Facts.Turns.{ready, ends_there, ends_stuck, goes_on, falls}
use Rattle.timeline_engine.proofs.turns.advance_to.Goals.{then-target-reached-via-then-target-reached, then-target-reached-via-else-target-reached+then-reached-before}
use Rattle.timeline_engine.proofs.turns.advance_to.Goals as goal

pub stop-stop-requires-clause-times_fit : goal.stop-stop-requires-clause-times_fit
stop-stop-requires-clause-times_fit g c =
    let S = g.met.E.Engine.sound _ _ _ (λ j. (c.type_inv.table j).fits) in
    (ready g.E.Engine.kind _ _ _ S _ _ _ _ _ _ _ c.loop-m.invariant.0 c.record_due.ensures).numbers

pub returns-then-target-reached-clause-went : goal.returns-then-target-reached-clause-went
returns-then-target-reached-clause-went g c =
    let X = g.E.Engine.kind in
    let S = g.met.E.Engine.sound _ _ _ (λ j. (c.type_inv.table j).fits) in
    elim c.then-target-reached.branch [
      | then-target-reached-via-then-target-reached w ↦
          ends_there X _ _ _ S _ _ _ _ _ _ _ c.loop-m.invariant.0 c.record_due.ensures _ _ c.steps-before.ensures c.stop-stop.ensures _ _ c.advance-outcome.ensures.advanced
          (omega (arith, c.record_due.auto.store)) _ c.steps-reached.ensures w.if-target-reached.true
      | then-target-reached-via-else-target-reached+then-reached-before w ↦
          ends_stuck X _ _ _ S _ _ _ _ _ _ _ c.loop-m.invariant.0 c.record_due.ensures _ _ c.steps-before.ensures c.stop-stop.ensures _ _ c.advance-outcome.ensures.advanced
          (omega (arith, c.record_due.auto.store)) _ c.steps-reached.ensures w.if-target-reached.false w.if-reached-before.true
    ]

pub loop-m-smaller : goal.loop-m-smaller
loop-m-smaller g c =
    let S = g.met.E.Engine.sound _ _ _ (λ j. (c.type_inv.table j).fits) in
    falls g.E.Engine.kind _ _ _ S _ _ _ _ _ _ _ c.loop-m.invariant.0 c.record_due.ensures _ _ c.steps-before.ensures c.stop-stop.ensures _ _ c.advance-outcome.ensures.advanced
    (omega (arith, c.record_due.auto.store)) _ c.steps-reached.ensures c.if-target-reached.false c.if-reached-before.false

pub loop-m-preserved : goal.loop-m-preserved
loop-m-preserved g c =
    let S = g.met.E.Engine.sound _ _ _ (λ j. (c.type_inv.table j).fits) in (
      goes_on g.E.Engine.kind _ _ _ S _ _ _ _ _ _ _ c.loop-m.invariant.0 c.record_due.ensures _ _ c.steps-before.ensures c.stop-stop.ensures _ _ c.advance-outcome.ensures.advanced
          (omega (arith, c.record_due.auto.store)) _ c.steps-reached.ensures c.if-target-reached.false c.if-reached-before.false,
      c.advance-outcome.ensures.same_buffers ∙ c.loop-m.invariant.1,
      omega (arith, c.record_due.auto.store, c.loop-m.invariant.2),
    )
