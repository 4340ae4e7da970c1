-- The questions on one tape (document 01, tape.rs): a cell by its position, the extent and the number of the non-blank cells, a window, and
-- the nearest non-blank cell. "A cell outside is blank." Definitions only.
use Rattle.std.specs.Prelude.{Bool, false, List, ℕ, ◌+◌, ◌-◌, eqb, ℤ, None, Option, Some}
use Rattle.notation.specs.Choice.{pick}
use Rattle.notation.specs.Scan.{all_in}
use Rattle.notation.specs.ScanDown.{count_fails}
use Rattle.notation.specs.Position.{◌⊖◌}
use Rattle.symbol.specs.Model.{raised_of}
use Rattle.symbol.specs.declared.Dir.{Dir}
use Rattle.symbol.specs.declared.Dir.TheVariants.{L, R, N}
use Rattle.tape.specs.declared.Span.{Span}
use Rattle.tape.specs.Model.Moves.{Held}
use Rattle.tape_positions.specs.Model as Views
use Rattle.tape_positions.specs.Model.{place_of, last_up_to, first_from}
pub use Rattle.tape_cells.specs.Model.{blank_at}
unfoldable pub use Rattle.tape_cells.specs.Model.{first_written, last_written}
unfoldable pub use Rattle.tape_positions.specs.Model.{cell_at}

-- every cell of the tape strictly beyond the head in that direction is blank
unfoldable pub blank_beyond : Held → Dir → Bool
blank_beyond h L = all_in (blank_at h.cells) h.tape.head 0
blank_beyond h R = all_in (blank_at h.cells) (h.tape.len - (h.tape.head + 1)) (h.tape.head + 1)
blank_beyond h N = false

-- ---- a cell by its position

abbrev pub cell_of : Held → ℤ → ℕ
cell_of h z = cell_at h.tape.origin h.tape.len h.cells z

-- ---- the non-blank cells

abbrev pub span : (from to : ℤ) → Span
span a b = record { from = a; to = b }

unfoldable pub span_of : (origin : ℕ) → Option ℕ → Option ℕ → Option Span
span_of o (Some i) (Some j) = Some (span (i ⊖ o) (j ⊖ o))
span_of o (Some i) None = None
span_of o None last = None

-- the positions of the lowest and the highest non-blank cell
unfoldable pub non_blank_of : Held → Option Span
non_blank_of h =
    span_of h.tape.origin (first_written h.cells 0 h.tape.len) (last_written h.cells h.tape.len)

unfoldable pub count_of : Held → ℕ
count_of h = count_fails (blank_at h.cells) h.tape.len

-- ---- "`window` fills its whole lent slice, positions past i64 blank"

-- place j holds the cell j places above the position raised − 2^63
abbrev pub window_cell : Held → (raised : ℕ) → ℕ → ℕ
window_cell h raised j = place_of h.tape.origin h.tape.len h.cells raised j

unfoldable pub window_from : Held → (raised : ℕ) → List ℕ → List ℕ
window_from h raised out = Views.window_from h.tape.origin h.tape.len h.cells raised out

-- the window from a position on
abbrev pub window_of : Held → (from : ℤ) → List ℕ → List ℕ
window_of h from out = window_from h (raised_of from) out

-- ---- the nearest non-blank cell

unfoldable pub spot_of : (origin : ℕ) → Option ℕ → Option ℤ
spot_of origin (Some i) = Some (i ⊖ origin)
spot_of origin None = None

-- at `from` or beyond it in that direction; N tests `from` alone
unfoldable pub find_of : Held → (from : ℤ) → Dir → Option ℤ
find_of h z L = spot_of h.tape.origin (last_up_to h.tape.origin h.tape.len h.cells z)
find_of h z R = spot_of h.tape.origin (first_from h.tape.origin h.tape.len h.cells z)
find_of h z N = pick (eqb (cell_of h z) 0) None (Some z)
