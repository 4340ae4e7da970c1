-- What the operations of one side keep. Definitions only.
use Rattle.std.specs.Prelude.{◌≡◌, ℕ, ◌≤◌, length}
use Rattle.rle_stack.specs.Model.{Side, cells_of}

-- the live runs have places, and the side has at most `most` cells
pub record SideOk (places most : ℕ) (x : Side) : Type 0 where
  pub live : x.count ≤ places
  pub symbols_in : places ≤ length x.symbols
  pub lengths_in : places ≤ length x.lengths
  pub cells_in : cells_of x ≤ most

-- the lent slices are as long as they were
pub record SameLengths (x y : Side) : Type 0 where
  pub symbols : length y.symbols ≡ length x.symbols
  pub lengths : length y.lengths ≡ length x.lengths
