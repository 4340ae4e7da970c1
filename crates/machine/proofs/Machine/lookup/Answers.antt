use Rattle.notation.proofs.Facts.Exit.{exit}
use mathlib.Core.Path.{sym, ◌∙◌}
use Rattle.machine.proofs.Facts.Check.{ranges}
use Rattle.machine.proofs.Facts.CheckCases.{looked_refused, looked_found}
use Rattle.machine.proofs.Machine.lookup.Goals as goal

pub returns-in_err-check : goal.returns-in_err-check
returns-in_err-check c = exit _ _ c.from_residual.ensures.1 ∙ looked_refused _ _ _ _ _ _ _ c.check.ensures _ c.in_err-check.was

pub stride-stride-requires : goal.stride-stride-requires
stride-stride-requires c =
    let g = ranges _ _ (sym c.check.ensures ∙ c.in_ok-check.was) in
    (g.tapes_low, g.tapes_high, g.symbols_high)

pub entry_number-number-requires : goal.entry_number-number-requires
entry_number-number-requires c =
    let g = ranges _ _ (sym c.check.ensures ∙ c.in_ok-check.was) in
    (g.symbols_high, c.stride-stride.ensures.1)

pub returns : goal.returns
returns c = looked_found _ _ _ _ _ _ _ c.check.ensures _ _ _ c.in_ok-check.was c.entry_at.ensures c.entry_number-number.ensures.0 c.stride-stride.ensures.0
