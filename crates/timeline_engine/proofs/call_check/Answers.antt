use Rattle.std.proofs.Common.{◌∙◌, sym, ap}
use Rattle.timeline_engine.specs.Engine.{sized}
use Rattle.notation.proofs.Facts.Exit.{exit}
use Rattle.timeline_engine.proofs.Facts.Moves.{engine_refused, then_checked, low_in}
use Rattle.timeline_engine.proofs.call_check.Goals as goal

pub returns-in_err-size : goal.returns-in_err-size
returns-in_err-size g c =
    exit _ _ c.from_residual.ensures.1 ∙ engine_refused g.E.Engine.kind _ _ _ _ _ _ _ (sym c.in_err-size.was ∙ c.admitted.ensures.admitted)

pub later_check-requires : goal.later_check-requires
later_check-requires g c =
    let S = g.met.E.Engine.sound _ _ _ (λ j. (c.type_inv.table j).fits) in
    low_in g.E.Engine.kind _ _ _ _ _ S (sym c.in_ok-size.was ∙ c.admitted.ensures.admitted) c.steps.ensures

pub returns-in_err-later_check : goal.returns-in_err-later_check
returns-in_err-later_check g c =
    exit _ _ c.from_residual-in_err-later_check.ensures.1 ∙ ap (sized _) (sym c.in_err-later_check.was)
    ∙ then_checked g.E.Engine.kind _ _ _ _ _ _ _ _ _ (sym c.in_ok-size.was ∙ c.admitted.ensures.admitted) c.steps.ensures c.later_check.ensures

pub returns : goal.returns
returns g c =
    ap (sized c.in_ok-size.size) (sym c.in_ok-later_check.was)
    ∙ then_checked g.E.Engine.kind _ _ _ _ _ _ _ _ _ (sym c.in_ok-size.was ∙ c.admitted.ensures.admitted) c.steps.ensures c.later_check.ensures
