use Rattle.std.proofs.Common.{◌≡◌, sym, refl, ap, ◌∙◌, length, arith, rules, Err, None}
use Rattle.std.specs.Result.{result_ok}
use Rattle.table_text_form.proofs.Facts.Good.{good_first, good_rows, good_step}
use Rattle.table_text_form.proofs.Facts.Cases.{scan_begins, scan_on, scan_stop, scan_formed, scan_early}
use Rattle.table_text.proofs.form.scan.Goals as goal

pub loop-i-init : goal.loop-i-init
loop-i-init c = (good_first, scan_begins _ _ refl)

pub step-requires : goal.step-requires
step-requires c =
    let g = good_rows _ c.loop-i.invariant.0 in
    (omega (arith, g.1), omega (arith, g.0))

pub loop-i-preserved : goal.loop-i-preserved
loop-i-preserved c =
    let led = c.ok_or.ensures.ok_part ∙ ap result_ok c.in_ok-at.was in
    (good_step _ _ c.loop-i.invariant.0 _ (sym c.step.ensures ∙ led), scan_on _ _ _ _ c.loop-i.invariant.1 _ _ c.loop-i-test.true c.step.ensures led)

pub returns-in_err-at : goal.returns-in_err-at
returns-in_err-at c =
    let ended : c.step.result ≡ None = c.ok_or.ensures.ok_part ∙ ap result_ok c.in_err-at.was in
    let answer : c.from_residual.result ≡ Err c.loop-i.i = search rules in
    answer ∙ scan_stop _ _ _ _ c.loop-i.invariant.1 _ c.loop-i-test.true c.step.ensures ended

pub overflow_add-result : goal.overflow_add-result
overflow_add-result c = let g = good_rows _ c.loop-i.invariant.0 in omega (arith, g.0)

pub returns-then-ends : goal.returns-then-ends
returns-then-ends c = scan_formed _ _ _ _ c.loop-i.invariant.1 _ _ c.loop-i.auto.i-end c.loop-i-test.false c.ends.ensures c.if-ends.true c.width_of.ensures

pub returns : goal.returns
returns c =
    let n : length c.args.line.now ≡ c.loop-i.i = omega (arith, c.loop-i.auto.i-end) in
    ap Err n ∙ scan_early _ _ _ _ c.loop-i.invariant.1 _ c.loop-i.auto.i-end c.loop-i-test.false c.ends.ensures c.if-ends.false
