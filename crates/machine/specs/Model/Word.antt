-- The check of an input word: refusals 9 and 10; 10 gives the first place. Definitions only.
use Rattle.outcome.specs.declared.Refusal.{Refusal}
use Rattle.std.specs.Prelude.{List, ℕ, leb, length, Result, ⊤}
use Rattle.notation.specs.Limits.{word_most}
use Rattle.notation.specs.Scan.{first_fail}
use Rattle.outcome.specs.declared.Refusal.TheVariants as Why
use Rattle.machine.specs.Model.Check.{demand, answer_at}
pub use Rattle.symbol.specs.Kinds.{symbol_in}

-- "10 a word symbol not below k (first place given)"
unfoldable pub symbols_check : (k : ℕ) → List ℕ → Result ⊤ Refusal
symbols_check k w = answer_at Why.WordSymbol (first_fail (symbol_in k w) (length w) 0)

-- "9 word over 1,048,576"
unfoldable pub word_check : (k : ℕ) → List ℕ → Result ⊤ Refusal
word_check k w = demand (leb (length w) word_most) Why.WordLength (symbols_check k w)
