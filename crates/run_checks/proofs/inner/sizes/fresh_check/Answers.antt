use Rattle.notation.proofs.Facts.Exit.{exit}
use Rattle.machine.proofs.Facts.Word.{word_says}
use mathlib.Core.Path.{sym, ◌∙◌}
use Rattle.run_checks.proofs.Facts.SizesCases.{fresh_table, fresh_word, fresh_small, fresh_passed}
use Rattle.run_checks.proofs.inner.sizes.fresh_check.Goals as goal

pub returns-in_err-check : goal.returns-in_err-check
returns-in_err-check c = exit _ _ c.from_residual.ensures.1 ∙ fresh_table _ _ _ _ _ _ _ c.check.ensures _ c.in_err-check.was

pub returns-in_err-check_word : goal.returns-in_err-check_word
returns-in_err-check_word c = exit _ _ c.from_residual-in_err-check_word.ensures.1 ∙ fresh_word _ _ _ _ _ _ _ c.check.ensures c.in_ok-check.was _ c.check_word.ensures _ c.in_err-check_word.was

pub fresh_sizes-requires : goal.fresh_sizes-requires
fresh_sizes-requires c = (word_says _ _ (sym c.check_word.ensures ∙ c.in_ok-check_word.was)).0

pub returns-then-not-fresh_sizes : goal.returns-then-not-fresh_sizes
returns-then-not-fresh_sizes c = fresh_small _ _ _ _ _ _ _ c.check.ensures c.in_ok-check.was _ c.check_word.ensures c.in_ok-check_word.was _ c.fresh_sizes.ensures (c.if-not-fresh_sizes.true)

pub returns : goal.returns
returns c = fresh_passed _ _ _ _ _ _ _ c.check.ensures c.in_ok-check.was _ c.check_word.ensures c.in_ok-check_word.was _ c.fresh_sizes.ensures (c.if-not-fresh_sizes.false)
