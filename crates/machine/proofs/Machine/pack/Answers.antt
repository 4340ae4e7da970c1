use Rattle.notation.proofs.Facts.Exit.{exit}
use native.Mathlib.Omega.{arith}
use mathlib.Core.Path.{sym, ◌∙◌}
use Rattle.machine.proofs.Facts.CheckCases.{count_small}
use Rattle.machine.proofs.Facts.Check.{ranges}
use Rattle.machine.proofs.Facts.PackingCases.{packs_refused, packs_several, packs_short, packs_whole}
use Rattle.machine.proofs.Machine.pack.Goals as goal

pub returns-in_err-check : goal.returns-in_err-check
returns-in_err-check c =
    let p = packs_refused _ _ _ _ c.check.ensures _ c.in_err-check.was in
    (exit _ _ c.from_residual.ensures.1 ∙ p.answer, p.holds)

pub returns-then-self-ne1 : goal.returns-then-self-ne1
returns-then-self-ne1 c =
    let p = packs_several _ _ _ _ c.check.ensures c.in_ok-check.was c.if-self-ne1.true in
    (p.answer, p.holds)

pub overflow_mul-count : goal.overflow_mul-count
overflow_mul-count c =
    let g = ranges _ _ (sym c.check.ensures ∙ c.in_ok-check.was) in
    record { fits = count_small _ _ g.states_high (omega arith) }

pub returns-then-out-count : goal.returns-then-out-count
returns-then-out-count c =
    let p = packs_short _ _ _ _ c.check.ensures c.in_ok-check.was c.if-self-ne1.false c.if-out-count.true in
    (p.answer, p.holds)

pub returns : goal.returns
returns c =
    let p = packs_whole _ _ _ _ c.check.ensures c.in_ok-check.was c.if-self-ne1.false _ c.if-out-count.false c.pack_entries.ensures in
    (p.answer, p.holds)
