use Rattle.notation.proofs.Facts.Exit.{exit}
use mathlib.Core.Path.{sym, ◌∙◌}
use Rattle.machine.proofs.Facts.Word.{word_says}
use Rattle.rle_counts.proofs.Facts.WordCases.{fresh_table, fresh_tapes, fresh_word, fresh_small, fresh_passed}
use Rattle.rle_macro.proofs.inner.word.fresh_check.Goals as goal

pub returns-in_err-check : goal.returns-in_err-check
returns-in_err-check c = exit _ _ c.from_residual.ensures.1 ∙ fresh_table _ _ _ _ _ _ c.check.ensures _ c.in_err-check.was

pub returns-then-m-ne1 : goal.returns-then-m-ne1
returns-then-m-ne1 c = fresh_tapes _ _ _ _ _ _ c.check.ensures c.in_ok-check.was c.if-m-ne1.true

pub returns-in_err-check_word : goal.returns-in_err-check_word
returns-in_err-check_word c = exit _ _ c.from_residual-in_err-check_word.ensures.1 ∙ fresh_word _ _ _ _ _ _ c.check.ensures c.in_ok-check.was c.if-m-ne1.false _ c.check_word.ensures _ c.in_err-check_word.was

pub fresh_sizes-requires : goal.fresh_sizes-requires
fresh_sizes-requires c = (word_says _ _ (sym c.check_word.ensures ∙ c.in_ok-check_word.was)).0

pub returns-then-not-fresh_sizes : goal.returns-then-not-fresh_sizes
returns-then-not-fresh_sizes c = fresh_small _ _ _ _ _ _ c.check.ensures c.in_ok-check.was c.if-m-ne1.false _ c.check_word.ensures c.in_ok-check_word.was _ c.fresh_sizes.ensures (c.if-not-fresh_sizes.true)

pub returns : goal.returns
returns c = fresh_passed _ _ _ _ _ _ c.check.ensures c.in_ok-check.was c.if-m-ne1.false _ c.check_word.ensures c.in_ok-check_word.was _ c.fresh_sizes.ensures (c.if-not-fresh_sizes.false)
