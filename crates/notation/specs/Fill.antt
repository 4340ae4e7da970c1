-- The result of a loop that writes f j into place j of a list, for the n places from i on. Definitions only.
use Rattle.std.specs.Prelude.{List, ℕ, zero, suc, ◌+◌, set}

unfoldable pub fill_from : (ℕ → ℕ) → ℕ → ℕ → List ℕ → List ℕ
fill_from f zero i out = out
fill_from f (suc n) i out = fill_from f n (i + 1) (set out i (f i))
