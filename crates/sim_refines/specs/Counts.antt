-- The number of non-blank cells of a tape, over all positions. Definitions only.
use Rattle.std.specs.Prelude.{◌≡◌, ℕ, ◌<◌, ℤ, ◌<ℤ◌}

-- x is one of the first n values of `at`
pub record Among {A : Type 0} (at : ℕ → A) (n : ℕ) (x : A) : Type 0 where
  pub number : ℕ
  pub below : number < n
  pub is : at number ≡ x

-- the non-blank cells lie at n positions, which `at` lists in rising order
pub record Counts (cell : ℤ → ℕ) (n : ℕ) : Type 0 where
  pub at : ℕ → ℤ
  pub rising : (i j : ℕ) → i < j → j < n → at i <ℤ at j
  pub written : (i : ℕ) → i < n → ¬ (cell (at i) ≡ 0)
  pub all : (z : ℤ) → ¬ (cell z ≡ 0) → Among at n z
