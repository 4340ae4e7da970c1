use Rattle.std.proofs.Common.{sym, ◌∙◌, eqb-true}
use Rattle.std.proofs.lemmas.Bool.{eqb-false}
use Rattle.listing_text.proofs.Facts.NumberCases.{number-none, number_zero, number_digits}
use Rattle.listing_text.proofs.read_number.Goals as goal

pub returns-then-is_empty : goal.returns-then-is_empty
returns-then-is_empty c = number-none _ (eqb-true _ _ (sym c.is_empty.ensures ∙ c.if-is_empty.true))

pub returns-then-zero_first : goal.returns-then-zero_first
returns-then-zero_first c = search number_zero

pub returns : goal.returns
returns c = let some = eqb-false _ _ (sym c.is_empty.ensures ∙ c.if-is_empty.false) in search number_digits
