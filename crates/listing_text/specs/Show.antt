-- Numbers and positions as text: decimal digits, with a minus before a negative position. Definitions only.
use Rattle.std.specs.Prelude.{ℕ, zero, suc, ◌+◌, ◌/◌, ◌%◌, List, [], ◌∷◌, ltb, ℤ, pos, negsuc}
use Rattle.notation.specs.Choice.{pick}

-- the last f decimal digits of n, or all where it has at most f, and then `after`
unfoldable pub show_on : (f n : ℕ) (after : List ℕ) → List ℕ
show_on zero n after = after
show_on (suc f) n after =
    let rest : List ℕ = show_on f (n / 10) ((48 + n % 10) ∷ after) in
    pick (ltb n 10) ((48 + n % 10) ∷ after) rest

-- a number of 64 bits has at most 20 digits
unfoldable pub show : ℕ → List ℕ
show n = show_on 20 n []

unfoldable pub show_ℤ : ℤ → List ℕ
show_ℤ (pos n) = show n
show_ℤ (negsuc n) = 45 ∷ show (n + 1)
