-- Decimal numbers as the listing writes them (document 01, "Listing"). Definitions only.
use Rattle.std.specs.Prelude.{ℕ, ◌+◌, ◌*◌, ◌-◌, ◌^◌, Bool, List, [], ◌∷◌, eqb, leb, ltb, None, Option, Some}
use Rattle.notation.specs.Choice.{pick, both}

-- 0 to 9
abbrev pub is_digit : ℕ → Bool
is_digit b = both (leb 48 b) (leb b 57)

-- the number that v and the digits after it make; bad is "a number .. over 64 bits"
unfoldable pub digits : ℕ → List ℕ → Option ℕ
digits v [] = pick (ltb v (2 ^ 64)) (Some v) None
digits v (b ∷ s) = pick (is_digit b) (digits (v * 10 + (b - 48)) s) None

-- at least one digit; bad is "a zero before another digit"
unfoldable pub number : List ℕ → Option ℕ
number [] = None
number (b ∷ []) = digits 0 (b ∷ [])
number (b ∷ c ∷ s) = pick (eqb b 48) None (digits 0 (b ∷ c ∷ s))

-- `go` of a number, or `out` where it is bad
unfoldable pub on_num : {A : Type 0} → Option ℕ → A → (ℕ → A) → A
on_num (Some v) out go = go v
on_num None out go = out

-- a number below `top`; bad is "a number outside its range"
unfoldable pub below : (top : ℕ) → List ℕ → Option ℕ
below top f = on_num (number f) None (λ v. pick (ltb v top) (Some v) None)
