-- The two scans over the n numbers from i on: whether a test holds for all of them, and the first for which it fails. Definitions only.
use Rattle.std.specs.Prelude.{Bool, true, ℕ, zero, suc, ◌+◌, None, Option, Some}
use Rattle.notation.specs.Choice.{pick, both}

unfoldable pub all_in : (ℕ → Bool) → ℕ → ℕ → Bool
all_in p zero i = true
all_in p (suc n) i =
    let rest : Bool = all_in p n (i + 1) in
    both (p i) rest

unfoldable pub first_fail : (ℕ → Bool) → ℕ → ℕ → Option ℕ
first_fail p zero i = None
first_fail p (suc n) i =
    let rest : Option ℕ = first_fail p n (i + 1) in
    pick (p i) rest (Some i)
