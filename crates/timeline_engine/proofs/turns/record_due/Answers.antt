use Rattle.timeline_rule.proofs.Facts.TurnCases.{rec_low, rec_not, rec_more, rec_yes, rec_inside, saved_is}
use Rattle.timeline_engine.proofs.Facts.Store.{part_kept}
use native.Mathlib.Omega.{arith}
use Rattle.timeline_engine.proofs.turns.record_due.Goals as goal

pub is_due-requires-clause-p_le_steps_most : goal.is_due-requires-clause-p_le_steps_most
is_due-requires-clause-p_le_steps_most g c =
    omega (arith, c.steps.ensures, rec_low g.E.Engine.kind _ _ _ _ (g.met.E.Engine.sound _ _ _ (λ j. (c.type_inv.table j).fits)) _ c.requires)

pub returns-then-not-is_due : goal.returns-then-not-is_due
returns-then-not-is_due g c =
    let X = g.E.Engine.kind in
    let S = g.met.E.Engine.sound _ _ _ (λ j. (c.type_inv.table j).fits) in
    rec_not X _ _ _ _ S _ _ _ _ (rw c.steps.ensures at c.is_due.ensures) c.if-not-is_due.true

pub recorded-requires : goal.recorded-requires
recorded-requires g c =
    let X = g.E.Engine.kind in
    let S = g.met.E.Engine.sound _ _ _ (λ j. (c.type_inv.table j).fits) in
    rec_more X _ _ _ _ S _ _ _ _ (rw c.steps.ensures at c.is_due.ensures) c.if-not-is_due.false _ c.requires (part_kept _ _ _ _ c.save.auto.slot)

pub returns : goal.returns
returns g c =
    let X = g.E.Engine.kind in
    let S = g.met.E.Engine.sound _ _ _ (λ j. (c.type_inv.table j).fits) in
    let saved = saved_is X _ _ _ _ _ _ c.save.ensures c.save.auto.slot (rec_inside X _ _ _ _ S _ c.requires) in
    rec_yes X _ _ _ _ S _ _ _ _ (rw c.steps.ensures at c.is_due.ensures) c.if-not-is_due.false _ _ _ saved c.recorded.ensures
