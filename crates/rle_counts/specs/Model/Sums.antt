-- When both sides of a run-length engine fit. Definitions only.
use Rattle.std.specs.Prelude.{Bool, ℕ, ◌+◌, leb}
use Rattle.notation.specs.Choice.{both}
use Rattle.notation.specs.Limits.{slack}
use Rattle.rle_stack.specs.Model.{Side, runs_fit, cells_of}

-- "the stack rule, each side's sum .. at most steps + 2^20", and the live runs have places
unfoldable pub side_fits : (k places most : ℕ) → Side → Bool
side_fits k places most x = both (leb x.count places) (both (runs_fit k x) (leb (cells_of x) most))

-- the left side fits, the right side fits, and their furthest cells are near enough to 0
abbrev pub sides_fit : (k left_places right_places steps : ℕ) → (left right : Side) → (near : Bool) → Bool
sides_fit k lp rp steps l r near = both (side_fits k lp (steps + slack) l) (both (side_fits k rp (steps + slack) r) near)
