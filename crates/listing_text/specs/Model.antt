-- The results of the functions that read and print, for their contracts. Definitions only.
use Rattle.std.specs.Prelude.{ℕ, suc, ◌+◌, ◌*◌, ◌-◌, ◌^◌, ◌≤◌, ◌≡◌, Bool, List, [], ◌∷◌, eqb, leb, ltb, length, get_or, None, Option, Some}
use Rattle.std.proofs.Math.Seq.{paste}
use Rattle.notation.specs.Choice.{pick, both}
use Rattle.listing_text.specs.Numbers.{is_digit}

-- v with one more digit b, within 64 bits
unfoldable pub add_digit : ℕ → ℕ → Option ℕ
add_digit v b =
    pick (is_digit b) (pick (ltb (v * 10 + (b - 48)) (2 ^ 64)) (Some (v * 10 + (b - 48))) None) None

unfoldable pub zero_first : List ℕ → Bool
zero_first s = both (leb 2 (length s)) (eqb (get_or s 0 0) 48)

-- the number of bytes before the first separator, or before the end
unfoldable pub up_to : (sep : ℕ) → List ℕ → ℕ
up_to sep [] = 0
up_to sep (b ∷ s) = pick (eqb b sep) 0 (suc (up_to sep s))

-- bs is written into o from `at` on, all of it fits, and r is the index after it
pub record Wrote (o : List ℕ) (at : ℕ) (bs o' : List ℕ) (r : ℕ) : Type 0 where
  pub ends : r ≡ at + length bs
  pub fits : at + length bs ≤ length o
  pub text : o' ≡ paste o at bs (length bs)
