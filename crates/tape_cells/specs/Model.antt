-- The results of the loops over a tape's cells: the buffer after writing, and what a scan finds. Definitions only.
use Rattle.std.specs.Prelude.{◌≡◌, Bool, List, ℕ, ◌+◌, ◌-◌, ◌<◌, eqb, length, get_or, slice_index, None, Option, Some}
use Rattle.notation.specs.Fill.{fill_from}
use Rattle.notation.specs.Scan.{first_fail}
use Rattle.notation.specs.ScanDown.{last_fail}

-- ---- the buffer after writing

abbrev pub blank_cell : ℕ → ℕ
blank_cell j = 0

-- blanks from index `from` on, below `to`
unfoldable pub blanked : (from to : ℕ) → List ℕ → List ℕ
blanked from to c = fill_from blank_cell (to - from) from c

-- the element at index j of a list s that begins at index `at`
abbrev pub placed : (at : ℕ) → List ℕ → ℕ → ℕ
placed at s j = get_or s (j - at) 0

-- the word from index `at` on
unfoldable pub laid : (at : ℕ) → List ℕ → List ℕ → List ℕ
laid at w c = fill_from (placed at w) (length w) at c

-- the first n cells moved up by `by` places
unfoldable pub moved_up : (by n : ℕ) → List ℕ → List ℕ
moved_up by n c = fill_from (placed by c) n by c

-- "Fresh: 16 blanks, the word, 16 blanks"; the rest of the buffer is unchanged
abbrev pub fresh_cells : (word cells : List ℕ) → List ℕ
fresh_cells w c = blanked (16 + length w) (32 + length w) (laid 16 w (blanked 0 16 c))

-- ---- what a scan finds

-- the cell at index i is blank
abbrev pub blank_at : List ℕ → ℕ → Bool
blank_at c i = eqb (get_or c i 0) 0

-- the number of cells that a found index requires
abbrev pub reach : Option ℕ → ℕ
reach (Some i) = i + 1
reach None = 0

-- the cell at a found index; blank where none was found
unfoldable pub found_cell : List ℕ → Option ℕ → ℕ
found_cell c (Some i) = get_or c i 0
found_cell c None = 0

-- the lowest non-blank cell from index `from` on, below `to`, and the highest below `to`
unfoldable pub first_written : List ℕ → (from to : ℕ) → Option ℕ
first_written c from to = (first_fail (blank_at c) (to - from) from)

unfoldable pub last_written : List ℕ → (to : ℕ) → Option ℕ
last_written c to = (last_fail (blank_at c) to)

-- index i holds the highest non-blank cell
abbrev pub IsLastWritten : List ℕ → ℕ → Type 0
IsLastWritten c i = (i < length c) × ((slice_index c i ≡ 0) → ⊥) × ((j : ℕ) → i < j → j < length c → slice_index c j ≡ 0)
