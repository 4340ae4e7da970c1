-- What follows from an accepted word check. Assumes nothing.
use Rattle.std.specs.Prelude.{◌≡◌, List, ℕ, ◌≤◌, ◌<◌, length, get_or, Ok}
use Rattle.std.proofs.Common.{arith, leb-true, ltb-true}
use Rattle.notation.specs.Limits.{word_most}
use Rattle.outcome.specs.declared.Refusal.TheVariants as Why
use Rattle.machine.specs.Model.Word.{symbol_in, symbols_check, word_check}
use Rattle.machine.proofs.Facts.Check.{demand_says, scan_says}

-- an accepted word has at most 1,048,576 symbols, and each is below k
pub word_says : (k : ℕ) (w : List ℕ) → word_check k w ≡ Ok tt → (length w ≤ word_most) × ((i : ℕ) → i < length w → get_or w i 0 < k)
unfolding word_check symbols_check
word_says k w e =
    let p = demand_says _ _ _ e in
    (leb-true _ _ p.0, λ i h. ltb-true _ _ (scan_says Why.WordSymbol (symbol_in k w) (length w) p.1 i (omega arith) (omega arith)))
