-- The name of a pair's file is ASCII, so it is text. Assumes nothing.
use Rattle.std.specs.Prelude.{ℕ, ◌<◌, List, [], ◌∷◌, Result, Ok, Err, MatchResult, IsOk}
use Rattle.std.specs.Str.{IsAscii, IsUtf8}
use Rattle.std.proofs.Common.{refl, arith}
use Rattle.std.proofs.lemmas.Str.{IsUtf8-from_ascii}
use Rattle.std.proofs.lemmas.Str.Ascii.{IsAscii-nil, IsAscii-cons}

pub is_text : {A E : Type 0} (r : Result A E) (bs : List ℕ) (P : A → Type 0) (Q : E → Type 0) → IsAscii bs
    → MatchResult r P (λ e. (IsUtf8 bs → ⊥) × Q e) → IsOk r
is_text (Ok x) bs P Q a m = refl
is_text (Err e) bs P Q a m = absurd (m.0 (IsUtf8-from_ascii bs a))

in_letters : IsAscii (46 ∷ 105 ∷ 110 ∷ [])
in_letters = IsAscii-cons 46 (105 ∷ 110 ∷ []) (omega arith) (IsAscii-cons 105 (110 ∷ []) (omega arith) (IsAscii-cons 110 [] (omega arith) IsAscii-nil))

out_letters : IsAscii (46 ∷ 111 ∷ 117 ∷ 116 ∷ [])
out_letters =
    let ut : IsAscii (117 ∷ 116 ∷ []) = IsAscii-cons 117 (116 ∷ []) (omega arith) (IsAscii-cons 116 [] (omega arith) IsAscii-nil) in
    IsAscii-cons 46 (111 ∷ 117 ∷ 116 ∷ []) (omega arith) (IsAscii-cons 111 (117 ∷ 116 ∷ []) (omega arith) ut)

-- three digits and the letters after them
module _ (a b c : ℕ) (ha : a < 128) (hb : b < 128) (hc : c < 128) where
  digits_first : (bs : List ℕ) → IsAscii bs → IsAscii (a ∷ b ∷ c ∷ bs)
  digits_first bs h = IsAscii-cons a (b ∷ c ∷ bs) ha (IsAscii-cons b (c ∷ bs) hb (IsAscii-cons c bs hc h))

  pub input_name : IsAscii (a ∷ b ∷ c ∷ 46 ∷ 105 ∷ 110 ∷ [])
  input_name = digits_first (46 ∷ 105 ∷ 110 ∷ []) in_letters

  pub output_name : IsAscii (a ∷ b ∷ c ∷ 46 ∷ 111 ∷ 117 ∷ 116 ∷ [])
  output_name = digits_first (46 ∷ 111 ∷ 117 ∷ 116 ∷ []) out_letters
