-- The first len of a tape's cells c by position, where index o is position 0 (document 01, tape.rs): a cell, a window, and the nearest cell that is
-- not blank. "A cell outside is blank." Definitions only.
use Rattle.std.specs.Prelude.{List, ℕ, ◌+◌, ◌-◌, ◌≤◌, ◌^◌, min, ltb, ℤ, length, Option}
use Rattle.notation.specs.Choice.{pick}
use Rattle.notation.specs.Fill.{fill_from}
use Rattle.notation.specs.Limits.{cells_most}
use Rattle.notation.specs.Position.{◌⊖◌, up, dn}
use Rattle.symbol.specs.Model.{raised_of, index_of}
use Rattle.tape_cells.specs.Model.{found_cell, first_written, last_written}

-- what the questions may assume
pub record Shown (o len : ℕ) (c : List ℕ) : Type 0 where
  pub len_in : len ≤ length c
  pub len_small : len ≤ cells_most
  pub origin_in : o ≤ len

-- ---- a cell by its position

unfoldable pub cell_at : (o len : ℕ) → List ℕ → ℤ → ℕ
cell_at o len c z = found_cell c (index_of z o len)

-- ---- "`window` fills its whole lent slice, positions past i64 blank"

-- the cell at position raised − 2^63, which is past i64 from 2^64 on
unfoldable pub raised_at : (o len : ℕ) → List ℕ → ℕ → ℕ
raised_at o len c raised = pick (ltb raised (2 ^ 64)) (cell_at o len c (raised ⊖ 2 ^ 63)) 0

-- place j holds the cell j places above a raised position
abbrev pub place_of : (o len : ℕ) → List ℕ → (raised : ℕ) → ℕ → ℕ
place_of o len c raised j = raised_at o len c (raised + j)

abbrev pub window_from : (o len : ℕ) → List ℕ → (raised : ℕ) → List ℕ → List ℕ
window_from o len c raised out = fill_from (place_of o len c raised) (length out) 0 out

-- the window from a position on
abbrev pub window_at : (o len : ℕ) → List ℕ → (from : ℤ) → List ℕ → List ℕ
window_at o len c from out = window_from o len c (raised_of from) out

-- ---- the nearest cell that is not blank

-- how many of the len cells lie below position up − down
abbrev pub cells_below : (up down o len : ℕ) → ℕ
cells_below up down o len = min (o + up - down) len

-- the highest non-blank cell at position z or below it, and the lowest at z or above it
abbrev pub last_up_to : (o len : ℕ) → List ℕ → ℤ → Option ℕ
last_up_to o len c z = last_written c (cells_below (up z) (dn z) (o + 1) len)

abbrev pub first_from : (o len : ℕ) → List ℕ → ℤ → Option ℕ
first_from o len c z = first_written c (cells_below (up z) (dn z) o len) len
