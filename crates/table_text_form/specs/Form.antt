-- The one-line form (document 02, request 1), byte by byte: an automaton. From every spot that it reaches, some bytes lead on to a line of the form. In bytes 0 is 48, A 65, L 76, R 82, `-` 45 and `_` 95. Definitions only.
use Rattle.std.specs.Prelude.{Bool, true, false, List, [], ◌∷◌, ℕ, ◌+◌, eqb, ltb, leb, Err, None, Ok, Option, Result, Some}
use Rattle.notation.specs.Choice.{pick, both}
use Rattle.table_bytes.specs.Model.Entries.{within}
use Rattle.table_text_form.specs.declared.Phase.{Phase}
use Rattle.table_text_form.specs.declared.Phase.TheVariants.{Between, Wrote, Moved, Dash, Dashes}
use Rattle.table_text_form.specs.declared.Spot.{Spot}

abbrev pub spot : (width rows col : ℕ) → Phase → Spot
spot width rows col phase =
    record {
      width = width;
      rows = rows;
      col = col;
      phase = phase;
    }

-- ---- the end of a row: "two to ten symbols"; every row has as many entries as the first

unfoldable pub may_end : Spot → Bool
may_end s = pick (eqb s.width 0) (leb 2 s.col) (eqb s.col s.width)

unfoldable pub is_full : Spot → Bool
is_full s = pick (eqb s.width 0) (eqb s.col 10) (eqb s.col s.width)

abbrev pub width_of : Spot → ℕ
width_of s = pick (eqb s.width 0) s.col s.width

-- "Rows are parted by an underscore."  "1 to 25 lettered states"
unfoldable pub row_ends : Spot → ℕ → Bool
row_ends s b = both (eqb b 95) (both (may_end s) (ltb s.rows 24))

-- ---- an entry: "a symbol written, L or R, and the next state's letter", or "`---`"

abbrev pub is_move : ℕ → Bool
is_move b = pick (eqb b 76) true (eqb b 82)

abbrev pub on_if : Bool → Spot → Option Spot
on_if test s = pick test (Some s) None

unfoldable pub entry_begins : Spot → ℕ → Option Spot
entry_begins s b =
    pick (is_full s) None
    (pick (eqb b 45) (Some (spot s.width s.rows s.col Dash)) (on_if (within 48 57 b) (spot s.width s.rows s.col Wrote)))

abbrev pub step_between : Spot → ℕ → Option Spot
step_between s b = pick (row_ends s b) (Some (spot (width_of s) (s.rows + 1) 0 Between)) (entry_begins s b)

abbrev pub step_in : Phase → Spot → ℕ → Option Spot
step_in Between s b = step_between s b
step_in Wrote s b = on_if (is_move b) (spot s.width s.rows s.col Moved)
step_in Moved s b = on_if (within 65 90 b) (spot s.width s.rows (s.col + 1) Between)
step_in Dash s b = on_if (eqb b 45) (spot s.width s.rows s.col Dashes)
step_in Dashes s b = on_if (eqb b 45) (spot s.width s.rows (s.col + 1) Between)

unfoldable pub step : Spot → ℕ → Option Spot
step s b = step_in s.phase s b

-- ---- a line

abbrev pub ends_in : Phase → Spot → Bool
ends_in Between s = may_end s
ends_in Wrote s = false
ends_in Moved s = false
ends_in Dash s = false
ends_in Dashes s = false

-- whether a line may end at s
unfoldable pub ends : Spot → Bool
ends s = ends_in s.phase s

-- the line from place i on, where the bytes before place i lead to s
unfoldable pub scan : List ℕ → Spot → ℕ → Result (ℕ × ℕ) ℕ
scan [] s i = pick (ends s) (Ok (s.rows + 1, width_of s)) (Err i)
scan (b ∷ l) s i = elim (step s b) [ Some t ↦ scan l t (i + 1) | None ↦ Err i ]

abbrev pub first : Spot
first = spot 0 0 0 Between

unfoldable pub form_of : List ℕ → Result (ℕ × ℕ) ℕ
form_of line = scan line first 0
