-- The test of 21 (document 02, request 1): "a table with several tapes, symbols not 2 to 10, lettered rows not 1 to 25, a start other than 0, an N move, or an undefined row before the last". Definitions only.
use Rattle.machine.specs.declared.Action.{Action}
use Rattle.std.specs.Prelude.{Bool, true, false, not, List, ℕ, ◌-◌, ◌*◌, eqb, None, Option, Some}
use Rattle.notation.specs.Choice.{pick, both}
use Rattle.notation.specs.Scan.{all_in}
use Rattle.symbol.specs.declared.Dir.{Dir}
use Rattle.symbol.specs.declared.Dir.TheVariants.{L, R, N}
use Rattle.machine.specs.declared.Machine.{Machine}
use Rattle.machine.specs.Layout.{entry_at}
use Rattle.table_bytes.specs.Model.Entries.{within}

abbrev pub is_undefined : Option Action → Bool
is_undefined None = true
is_undefined (Some a) = false

abbrev pub undefined_at : List ℕ → ℕ → Bool
undefined_at s i = is_undefined (entry_at s i)

-- row q of a table of one tape and k symbols
unfoldable pub row_undefined : ℕ → List ℕ → ℕ → Bool
row_undefined k s q = all_in (undefined_at s) k (q * k)

-- "Writing takes a last row that is all undefined as Z's."
unfoldable pub lettered_rows : Machine → List ℕ → ℕ
lettered_rows m s = pick (row_undefined m.symbols s (m.states - 1)) (m.states - 1) m.states

abbrev pub is_moving : Dir → Bool
is_moving L = true
is_moving R = true
is_moving N = false

abbrev pub moves_or : Option Action → Bool
moves_or None = true
moves_or (Some a) = is_moving a.dir0

abbrev pub moves_at : List ℕ → ℕ → Bool
moves_at s i = moves_or (entry_at s i)

abbrev pub row_defined : ℕ → List ℕ → ℕ → Bool
row_defined k s q = not (row_undefined k s q)

unfoldable pub has_line : Machine → List ℕ → Bool
has_line m s =
    both (eqb m.tapes 1)
    (both (within 2 10 m.symbols)
    (both (within 1 25 (lettered_rows m s))
    (both (eqb m.start 0)
    (both (all_in (moves_at s) (m.states * m.symbols) 0) (all_in (row_defined m.symbols s) (m.states - 1) 0)))))
