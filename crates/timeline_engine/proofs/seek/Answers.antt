use Rattle.std.proofs.Common.{◌∙◌, sym, ap}
use Rattle.timeline_rule.specs.Invariants.{timeline_of}
use Rattle.timeline_engine.specs.Engine.{replied}
use Rattle.notation.proofs.Facts.Exit.{exit}
use Rattle.timeline_engine.proofs.Facts.Moves.{seek_refused_by, seek_may_go, seek_gone}
use Rattle.timeline_engine.proofs.seek.Goals as goal

pub returns-in_err-size-clause-went : goal.returns-in_err-size-clause-went
returns-in_err-size-clause-went g c =
    let E = g.E.Engine in
    ap (λ r. replied E.kind r (timeline_of E.kind (E.state c.args.engine.now) c.args.store.now c.args.times.now)) (exit _ _ c.from_residual.ensures.1)
    ∙ seek_refused_by E.kind _ _ _ _ _ _ (sym c.in_err-size.was ∙ c.call_check.ensures)

pub go_to-requires : goal.go_to-requires
go_to-requires g c =
    let S = g.met.E.Engine.sound _ _ _ (λ j. (c.type_inv.table j).fits) in
    seek_may_go g.E.Engine.kind _ _ _ _ _ (sym c.in_ok-size.was ∙ c.call_check.ensures) _ c.max-goal.ensures S

pub returns-clause-went : goal.returns-clause-went
returns-clause-went g c =
    seek_gone g.E.Engine.kind _ _ _ _ _ (sym c.in_ok-size.was ∙ c.call_check.ensures) _ c.max-goal.ensures _ c.go_to.ensures.went
