use Rattle.std.proofs.Common.{◌∙◌, sym, ap, length-take-le}
use Rattle.notation.proofs.Facts.Exit.{exit}
use Rattle.timeline_engine.proofs.Facts.Begin.{saved_first, begin_refused, then_refused, begin_inside, begin_saves, begin_made}
use Rattle.rle_slots.specs.Model.Kind.{chain_kind}
use Rattle.rle_timeline.specs.Model.{begun}
use Rattle.rle_timeline.proofs.Facts.EngineCases.{live_in}
use Rattle.rle_timeline.proofs.Timeline.new.Goals as goal

pub returns-in_err-size : goal.returns-in_err-size
returns-in_err-size c =
    ap (λ r. begun r c.args.ls.now c.args.ll.now c.args.rs.now c.args.rl.now c.args.store.now) (exit _ _ c.from_residual.ensures.1)
    ∙ begin_refused chain_kind _ _ _ _ _ _ _ (sym c.in_err-size.was ∙ c.admitted.ensures.admitted)

pub returns-in_err-first_check : goal.returns-in_err-first_check
returns-in_err-first_check c =
    ap (λ r. begun r c.args.ls.now c.args.ll.now c.args.rs.now c.args.rl.now c.args.store.now) (exit _ _ c.from_residual-in_err-first_check.ensures.1)
    ∙ then_refused chain_kind _ _ _ _ _ _ _ (sym c.in_ok-size.was ∙ c.admitted.ensures.admitted) _ _ c.first_check.ensures c.in_err-first_check.was

pub slice_bounds-save-end : goal.slice_bounds-save-end
slice_bounds-save-end c = begin_inside chain_kind _ _ _ _ _ _ _ (sym c.in_ok-size.was ∙ c.admitted.ensures.admitted) _ c.first_check.ensures c.in_ok-first_check.was

pub slice_bounds-save-end-2 : goal.slice_bounds-save-end-2
slice_bounds-save-end-2 c = sym (length-take-le _ _ (begin_inside chain_kind _ _ _ _ _ _ _ (sym c.in_ok-size.was ∙ c.admitted.ensures.admitted) _ c.first_check.ensures c.in_ok-first_check.was))

pub save-requires : goal.save-requires
save-requires c =
    let saves = begin_saves chain_kind _ _ _ _ _ _ _ (sym c.in_ok-size.was ∙ c.admitted.ensures.admitted) _ c.first_check.ensures c.in_ok-first_check.was in
    record { left_bound = live_in _ _ _ saves; slot_len = sym saves.fits.sized }

pub returns : goal.returns
returns c = begin_made chain_kind _ _ _ _ _ _ _ (sym c.in_ok-size.was ∙ c.admitted.ensures.admitted) _ c.first_check.ensures c.in_ok-first_check.was _
    (saved_first chain_kind c.args.m _ _ _ _ c.save.ensures c.save.auto.slot (begin_inside chain_kind _ _ _ _ _ _ _ (sym c.in_ok-size.was ∙ c.admitted.ensures.admitted) _ c.first_check.ensures c.in_ok-first_check.was))
