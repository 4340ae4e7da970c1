-- A scan downward, and a count: the highest number below n for which a test fails, and how many such numbers there are. Definitions only.
use Rattle.std.specs.Prelude.{Bool, ℕ, zero, suc, ◌+◌, None, Option, Some}
use Rattle.notation.specs.Choice.{pick}

unfoldable pub last_fail : (ℕ → Bool) → ℕ → Option ℕ
last_fail p zero = None
last_fail p (suc n) =
    let rest : Option ℕ = last_fail p n in
    pick (p n) rest (Some n)

unfoldable pub count_fails : (ℕ → Bool) → ℕ → ℕ
count_fails p zero = 0
count_fails p (suc n) = count_fails p n + pick (p n) 0 1
