-- Computed examples over five glyphs: 95, the blank; 97, not flagged; 98, flagged input; 97 once more, flagged; 99, whose flag is missing. Assumes nothing.
use Rattle.outcome.specs.declared.Refusal.{Refusal}
use Rattle.std.specs.Prelude.{◌≡◌, refl, List, [], ◌∷◌, ℕ, length, Err, Ok, Result, ⊤}
use Rattle.notation.specs.Choice.{pick, both}
use Rattle.notation.specs.Scan.{first_fail}
use Rattle.notation.specs.Fill.{fill_from}
use Rattle.outcome.specs.declared.Refusal.TheVariants as Why
use Rattle.alphabet.specs.Model.{symbol_for, is_input, allowed_at, byte_at, glyphs_check, encode_check, encode_into}

abbrev glyphs : List ℕ
glyphs = 95 ∷ 97 ∷ 98 ∷ 97 ∷ 99 ∷ []

abbrev flags : List ℕ
flags = 0 ∷ 0 ∷ 1 ∷ 1 ∷ []

-- the answer, and the output afterwards
pub record Encoding : Type 0 where
  pub answer : Result ⊤ Refusal
  pub output : List ℕ

abbrev encoded : (word out : List ℕ) → Encoding
encoded word out = record { answer = encode_check glyphs flags word (length out); output = encode_into glyphs flags word out }

abbrev gives : Result ⊤ Refusal → List ℕ → Encoding
gives r out = record { answer = r; output = out }

-- the blank needs no flag, and the places past the word are unchanged
accepted : encoded (98 ∷ 95 ∷ []) (7 ∷ 7 ∷ 7 ∷ []) ≡ gives (Ok tt) (2 ∷ 0 ∷ 7 ∷ [])
unfolding encode_check glyphs_check encode_into allowed_at byte_at symbol_for is_input first_fail fill_from pick both
accepted = refl

-- the first equal glyph decides, although a later copy is flagged
later_copy : encoded (98 ∷ 97 ∷ []) (7 ∷ 7 ∷ []) ≡ gives (Err (Why.Glyph 1)) (7 ∷ 7 ∷ [])
unfolding encode_check glyphs_check encode_into allowed_at byte_at symbol_for is_input first_fail fill_from pick both
later_copy = refl

-- a missing flag counts as unset
missing_flag : encoded (99 ∷ []) (7 ∷ []) ≡ gives (Err (Why.Glyph 0)) (7 ∷ [])
unfolding encode_check glyphs_check encode_into allowed_at byte_at symbol_for is_input first_fail fill_from pick both
missing_flag = refl

-- two glyphs are missing: refusal 17 gives the first place, and comes before 18
no_glyph : encoded (98 ∷ 100 ∷ 101 ∷ []) (7 ∷ []) ≡ gives (Err (Why.Glyph 1)) (7 ∷ [])
unfolding encode_check glyphs_check encode_into allowed_at byte_at symbol_for is_input first_fail fill_from pick both
no_glyph = refl

too_short : encoded (98 ∷ 98 ∷ []) (7 ∷ []) ≡ gives (Err Why.OutputSize) (7 ∷ [])
unfolding encode_check glyphs_check encode_into allowed_at byte_at symbol_for is_input first_fail fill_from pick both
too_short = refl

empty_word : encoded [] [] ≡ gives (Ok tt) []
unfolding encode_check glyphs_check encode_into allowed_at byte_at symbol_for is_input first_fail fill_from pick both
empty_word = refl
