-- The encoder (document 01, alphabet.rs): "A glyph is the first equal one among the first 256; it must be blank or flagged input, a missing flag counting as unset." Definitions only.
use Rattle.outcome.specs.declared.Refusal.{Refusal}
use Rattle.std.specs.Prelude.{Bool, true, false, not, List, ℕ, min, eqb, ltb, leb, length, get_or, None, Ok, Option, Result, Some, ⊤}
use Rattle.notation.specs.Choice.{pick, both}
use Rattle.notation.specs.Scan.{first_fail}
use Rattle.notation.specs.Fill.{fill_from}
use Rattle.symbol.specs.Kinds.{symbol_of}
use Rattle.symbol.specs.declared.Symbol.{Symbol}
use Rattle.outcome.specs.declared.Refusal.TheVariants as Why
use Rattle.machine.specs.Model.Check.{demand, checked_on, answer_at, filled_on}

-- ---- one glyph

abbrev pub differs : (glyphs : List ℕ) (glyph : ℕ) → ℕ → Bool
differs glyphs glyph i = not (eqb (get_or glyphs i 0) glyph)

abbrev pub named : Option ℕ → Option Symbol
named None = None
named (Some i) = Some (symbol_of i)

-- "the first equal one among the first 256"
unfoldable pub symbol_for : (glyphs : List ℕ) (glyph : ℕ) → Option Symbol
symbol_for glyphs glyph = named (first_fail (differs glyphs glyph) (min (length glyphs) 256) 0)

-- "flagged input, a missing flag counting as unset"
unfoldable pub is_input : (flags : List ℕ) → Symbol → Bool
is_input flags s = both (ltb s.0 (length flags)) (not (eqb (get_or flags s.0 0) 0))

-- "it must be blank or flagged input"
abbrev pub allowed_on : (flags : List ℕ) → Option Symbol → Bool
allowed_on flags None = false
allowed_on flags (Some s) = pick (eqb s.0 0) true (is_input flags s)

-- the byte written; a word with a missing glyph is refused, and nothing is written
abbrev pub byte_on : Option Symbol → ℕ
byte_on None = 0
byte_on (Some s) = s.0

-- ---- the glyph at place i of a word

unfoldable pub allowed_at : (glyphs flags word : List ℕ) → ℕ → Bool
allowed_at glyphs flags word i = allowed_on flags (symbol_for glyphs (get_or word i 0))

unfoldable pub byte_at : (glyphs word : List ℕ) → ℕ → ℕ
byte_at glyphs word i = byte_on (symbol_for glyphs (get_or word i 0))

-- ---- a word: "17 glyph not allowed (first place), 18 output shorter than the word"

unfoldable pub glyphs_check : (glyphs flags word : List ℕ) → Result ⊤ Refusal
glyphs_check glyphs flags word = answer_at Why.Glyph (first_fail (allowed_at glyphs flags word) (length word) 0)

unfoldable pub encode_check : (glyphs flags word : List ℕ) (room : ℕ) → Result ⊤ Refusal
encode_check glyphs flags word room =
    checked_on (glyphs_check glyphs flags word) (demand (leb (length word) room) Why.OutputSize (Ok tt))

-- the output afterwards: place i holds the symbol of the word's glyph at i, and the places past the word are unchanged; after a refusal all is unchanged
unfoldable pub encode_into : (glyphs flags word out : List ℕ) → List ℕ
encode_into glyphs flags word out =
    filled_on (encode_check glyphs flags word (length out)) out
    (fill_from (byte_at glyphs word) (length word) 0 out)
