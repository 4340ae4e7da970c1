-- The glyphs allowed in a word, defined on the lists alone: "A glyph is the first equal one among the first 256; it must be blank or flagged input, a missing flag counting as unset." Definitions only.
use Rattle.symbol.specs.declared.Symbol.{Symbol}
use Rattle.std.specs.Prelude.{◌≡◌, List, [], ◌∷◌, ℕ, ◌<◌, length, get_or, None, Option, Some}

-- "the first equal one among the first 256": i is its place
pub record First (glyphs : List ℕ) (glyph i : ℕ) : Type 0 where
  pub among : i < length glyphs
  pub small : i < 256
  pub equal : get_or glyphs i 0 ≡ glyph
  pub before : (j : ℕ) → j < i → ¬ (get_or glyphs j 0 ≡ glyph)

-- none of the first 256 glyphs is equal to it
abbrev pub Absent : (glyphs : List ℕ) (glyph : ℕ) → Type 0
Absent glyphs glyph = (j : ℕ) → j < length glyphs → j < 256 → ¬ (get_or glyphs j 0 ≡ glyph)

-- the number and the values of an answer: 0 for none, else 1 and the symbol
abbrev pub named_numbers : Option Symbol → List ℕ
named_numbers None = 0 ∷ []
named_numbers (Some s) = 1 ∷ s.0 ∷ []

-- "flagged input, a missing flag counting as unset"
pub record Flagged (flags : List ℕ) (i : ℕ) : Type 0 where
  pub given : i < length flags
  pub set : ¬ (get_or flags i 0 ≡ 0)

-- "it must be blank or flagged input"; the blank is place 0
pub data Allowed (glyphs flags : List ℕ) (glyph : ℕ) : Type 0 where
  blank : First glyphs glyph 0 → Allowed glyphs flags glyph
  input : (i : ℕ) → First glyphs glyph i → Flagged flags i → Allowed glyphs flags glyph

-- "17 glyph not allowed": it has no place, or its place is neither 0 nor flagged
pub data NotAllowed (glyphs flags : List ℕ) (glyph : ℕ) : Type 0 where
  missing : Absent glyphs glyph → NotAllowed glyphs flags glyph
  unflagged : (i : ℕ) → First glyphs glyph i → ¬ (i ≡ 0) → ¬ (Flagged flags i) → NotAllowed glyphs flags glyph

-- "17 glyph not allowed (first place)"
pub record FirstNotAllowed (glyphs flags word : List ℕ) (i : ℕ) : Type 0 where
  pub inside : i < length word
  pub bad : NotAllowed glyphs flags (get_or word i 0)
  pub good : (j : ℕ) → j < i → Allowed glyphs flags (get_or word j 0)
