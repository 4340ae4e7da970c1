use Rattle.notation.proofs.Facts.Exit.{exit}
use Rattle.machine.proofs.Facts.Check.{ranges}
use mathlib.Core.Path.{sym, ◌∙◌}
use Rattle.sim.proofs.Facts.OperationCases.{fast_refused, fast_wrong, fast_passed}
use Rattle.sim.proofs.Simulator.fast_check.Goals as goal

pub returns-in_err-check : goal.returns-in_err-check
returns-in_err-check c = exit _ _ c.from_residual.ensures.1 ∙ fast_refused _ _ _ _ _ _ _ _ _ c.check.ensures _ c.in_err-check.was

pub words_right-requires : goal.words_right-requires
words_right-requires c =
    let g = ranges _ _ (sym c.check.ensures ∙ c.in_ok-check.was) in
    (g.symbols_high, g.states_high)

pub returns-then-not-words_right : goal.returns-then-not-words_right
returns-then-not-words_right c = fast_wrong _ _ _ _ _ _ _ _ _ c.check.ensures c.in_ok-check.was _ c.words_right.ensures (c.if-not-words_right.true)

pub returns : goal.returns
returns c = fast_passed _ _ _ _ _ _ _ _ _ c.check.ensures c.in_ok-check.was _ c.words_right.ensures _ (c.if-not-words_right.false) c.fuel_check.ensures
