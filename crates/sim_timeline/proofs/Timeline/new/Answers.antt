use Rattle.std.proofs.Common.{◌∙◌, sym, ap, length-take-le}
use Rattle.notation.proofs.Facts.Exit.{exit}
use Rattle.timeline_engine.proofs.Facts.Begin.{saved_first, begin_refused, then_refused, begin_inside, begin_saves, begin_made}
use Rattle.sim_slots.specs.Model.Kind.{plain_kind}
use Rattle.sim_timeline.specs.Model.{begun}
use Rattle.sim_timeline.proofs.Facts.EngineCases.{save_asks}
use Rattle.sim_timeline.proofs.Timeline.new.Goals as goal

pub returns-in_err-size : goal.returns-in_err-size
returns-in_err-size c =
    ap (λ r. begun r c.args.c0.now c.args.c1.now c.args.c2.now c.args.store.now) (exit _ _ c.from_residual.ensures.1)
    ∙ begin_refused plain_kind _ _ _ _ _ _ _ (sym c.in_err-size.was ∙ c.admitted.ensures.admitted)

pub returns-in_err-first_check : goal.returns-in_err-first_check
returns-in_err-first_check c =
    ap (λ r. begun r c.args.c0.now c.args.c1.now c.args.c2.now c.args.store.now) (exit _ _ c.from_residual-in_err-first_check.ensures.1)
    ∙ then_refused plain_kind _ _ _ _ _ _ _ (sym c.in_ok-size.was ∙ c.admitted.ensures.admitted) _ _ c.first_check.ensures c.in_err-first_check.was

pub slice_bounds-save-end : goal.slice_bounds-save-end
slice_bounds-save-end c = begin_inside plain_kind _ _ _ _ _ _ _ (sym c.in_ok-size.was ∙ c.admitted.ensures.admitted) _ c.first_check.ensures c.in_ok-first_check.was

pub slice_bounds-save-end-2 : goal.slice_bounds-save-end-2
slice_bounds-save-end-2 c = sym (length-take-le _ _ (begin_inside plain_kind _ _ _ _ _ _ _ (sym c.in_ok-size.was ∙ c.admitted.ensures.admitted) _ c.first_check.ensures c.in_ok-first_check.was))

pub save-requires : goal.save-requires
save-requires c = save_asks _ _ _ (begin_saves plain_kind _ _ _ _ _ _ _ (sym c.in_ok-size.was ∙ c.admitted.ensures.admitted) _ c.first_check.ensures c.in_ok-first_check.was)

pub returns : goal.returns
returns c = begin_made plain_kind _ _ _ _ _ _ _ (sym c.in_ok-size.was ∙ c.admitted.ensures.admitted) _ c.first_check.ensures c.in_ok-first_check.was _
    (saved_first plain_kind _ _ _ _ _ c.save.ensures c.save.auto.slot (begin_inside plain_kind _ _ _ _ _ _ _ (sym c.in_ok-size.was ∙ c.admitted.ensures.admitted) _ c.first_check.ensures c.in_ok-first_check.was))
