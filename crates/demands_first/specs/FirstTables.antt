-- THE FIRST DEMAND for the operations on tables and input words: the table check, the lookup, packing, the word's check, and the encoder.
use Rattle.std.specs.Prelude.{◌≡◌, true, ◌↔◌, List, [], ◌∷◌, ℕ, ◌≤◌, ◌<◌, length, get_or, Err, Ok, Result, ⊤}
use Rattle.symbol.specs.declared.Symbol.{Symbol}
use Rattle.symbol.specs.declared.State.{State}
use Rattle.outcome.specs.declared.Refusal.{Refusal}
use Rattle.outcome.specs.declared.Refusal.TheVariants as Why
use Rattle.machine.specs.declared.Machine.{Machine}
use Rattle.machine.specs.Model.Check.{table_check, lookup_of}
use Rattle.machine.specs.Model.Packing.{pack_check, pack_into}
use Rattle.machine.specs.Model.Word.{word_check}
use Rattle.table_laws.specs.WellFormed.{Bytes, WellFormed, FirstRefusal}
use Rattle.alphabet.specs.Model.{symbol_for, allowed_at, encode_check, encode_into}
use Rattle.alphabet.specs.Glyphs.{First, Absent, named_numbers, Allowed, FirstNotAllowed}
use Rattle.demands_first.specs.FirstClaims.{TurnsAway, refusal_of}
use Rattle.demands_first.specs.FirstTests.{table_tests, pack_tests, word_tests, encode_tests}

pub record TableOperations : Type 0 where
  -- ---- "A refusal carries its number from document 01 and changes no state, tape, run stack or store."

  -- the table check, "first in every operation that takes one"; it writes nothing
  pub check : (m : Machine) (s : List ℕ) → TurnsAway (1 ∷ 2 ∷ 3 ∷ 4 ∷ 5 ∷ 6 ∷ []) (table_tests m s) (λ (r : Result ⊤ Refusal). r) Err (table_check m s)
  -- in document 01's words, by the layout and not by the check: the refusal is the first that applies, 6 with the lowest entry; a well-formed table has none
  pub check_first : (m : Machine) (s : List ℕ) → Bytes s → (why : Refusal) → table_check m s ≡ Err why → FirstRefusal m s why
  pub check_none : (m : Machine) (s : List ℕ) → Bytes s → (table_check m s ≡ Ok tt) ↔ WellFormed m s
  -- the lookup of an entry: only the table check refuses
  pub lookup : (m : Machine) (s : List ℕ) (q : State) (a0 a1 a2 : Symbol)
      → TurnsAway (1 ∷ 2 ∷ 3 ∷ 4 ∷ 5 ∷ 6 ∷ []) (table_tests m s) refusal_of Err (lookup_of m s q a0 a1 a2)
  -- packing: the answer, with the lent output
  pub pack : (m : Machine) (s out : List ℕ)
      → TurnsAway (1 ∷ 2 ∷ 3 ∷ 4 ∷ 5 ∷ 6 ∷ 7 ∷ 18 ∷ []) (pack_tests m s (length out)) (λ (x : Result ⊤ Refusal × List ℕ). x.0) (λ why. (Err why, out))
      (pack_check m s (length out), pack_into m s out)
  -- the word's check; 10 gives the first place
  pub word : (k : ℕ) (w : List ℕ) → TurnsAway (9 ∷ 10 ∷ []) (word_tests k w) (λ (r : Result ⊤ Refusal). r) Err (word_check k w)
  pub word_first : (k : ℕ) (w : List ℕ) (i : ℕ) → word_check k w ≡ Err (Why.WordSymbol i)
      → (i < length w) × (k ≤ get_or w i 0) × ((j : ℕ) → j < i → get_or w j 0 < k)
  -- a glyph's symbol, "the first equal one among the first 256": its place (First), or none exactly where there is no such place (Absent); nothing is refused
  pub symbol_for_holds : (glyphs : List ℕ) (glyph i : ℕ) → (named_numbers (symbol_for glyphs glyph) ≡ 1 ∷ i ∷ []) ↔ First glyphs glyph i
  pub symbol_none : (glyphs : List ℕ) (glyph : ℕ) → (named_numbers (symbol_for glyphs glyph) ≡ 0 ∷ []) ↔ Absent glyphs glyph
  -- the encoder: the answer, with the lent output
  pub encode : (glyphs flags word out : List ℕ)
      → TurnsAway (17 ∷ 18 ∷ []) (encode_tests glyphs flags word (length out)) (λ (x : Result ⊤ Refusal × List ℕ). x.0) (λ why. (Err why, out))
      (encode_check glyphs flags word (length out), encode_into glyphs flags word out)
  -- "A glyph is the first equal one among the first 256; it must be blank or flagged input, a missing flag counting as unset." (Allowed): the test of one glyph
  pub encode_glyph : (glyphs flags word : List ℕ) (i : ℕ) → (allowed_at glyphs flags word i ≡ true) ↔ Allowed glyphs flags (get_or word i 0)
  -- "17 glyph not allowed (first place)" (FirstNotAllowed), exactly there: no place below 256 holds the glyph, or the first such place is neither 0 nor flagged
  pub encode_first : (glyphs flags word : List ℕ) (room i : ℕ) → (encode_check glyphs flags word room ≡ Err (Why.Glyph i)) ↔ FirstNotAllowed glyphs flags word i
