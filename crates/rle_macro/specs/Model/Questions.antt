-- Questions on a tape of two sides, by the head's raised position, the symbol under it, and the sides. Definitions only.
use Rattle.std.specs.Prelude.{List, ℕ, ◌+◌, ◌-◌, ◌^◌, eqb, ltb, length}
use Rattle.notation.specs.Choice.{pick}
use Rattle.notation.specs.Fill.{fill_from}
use Rattle.rle_stack.specs.Model.{Side, cell_at, written_of}

-- the symbol at position raised − 2^63: the one under the head, or one of a side
unfoldable pub cell_on : (head cur : ℕ) → (left right : Side) → (raised : ℕ) → ℕ
cell_on h c l r p =
    pick (eqb p h) c
    (pick (ltb p h) (cell_at l (h - p - 1)) (cell_at r (p - h - 1)))

-- raised positions from 2^64 on lie past i64, and are blank
unfoldable pub window_on : (head cur : ℕ) → (left right : Side) → (raised j : ℕ) → ℕ
window_on h c l r raised j = pick (ltb (raised + j) (2 ^ 64)) (cell_on h c l r (raised + j)) 0

unfoldable pub window_all : (head cur : ℕ) → (left right : Side) → (raised : ℕ) → List ℕ → List ℕ
window_all h c l r raised out = fill_from (window_on h c l r raised) (length out) 0 out

-- how many cells are not blank
unfoldable pub count_on : (cur : ℕ) → (left right : Side) → ℕ
count_on c l r = written_of l + pick (eqb c 0) 0 1 + written_of r
