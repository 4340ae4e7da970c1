-- A cell by its position: where a position lies among a tape's cells, and the cell there. A growth changes no cell at any position. Assumes nothing.
use Rattle.std.specs.Prelude.{◌≡◌, List, ℕ, ◌+◌, ◌-◌, ◌≤◌, ◌<◌, ℤ, length, get_or}
use Rattle.std.proofs.Common.{sym, ◌∙◌, arith}
use Rattle.std.proofs.Math.Path.{ap}
use Rattle.std.proofs.Math.Decide.{dec_lt}
use Rattle.notation.specs.Position.{◌⊖◌, up, dn}
use Rattle.notation.proofs.Facts.Position.{diff-⊖}
use Rattle.tape_cells.specs.Model.{found_cell}
use Rattle.symbol.proofs.Facts.Places.{index_in, index_before, index_past}
use Rattle.symbol.specs.declared.Dir.{Dir}
use Rattle.symbol.specs.declared.Dir.TheVariants.{L, R, N}
use Rattle.tape.specs.Model.Moves.{Held, grown_by}
use Rattle.tape.specs.Model.Questions.{cell_at, cell_of}
use Rattle.tape.proofs.Facts.Cells.{GrownCell, old, new_low, new_high, grown_holds}

-- where position z lies among len cells, with position 0 at index o
pub data Place (o len : ℕ) (z : ℤ) : Type 0 where
  below : up z + o < dn z → Place o len z
  inside : (i : ℕ) → i < len → up z + o ≡ i + dn z → Place o len z
  past : len + dn z ≤ up z + o → Place o len z

pub place : (o len : ℕ) (z : ℤ) → Place o len z
place o len z = first (dec_lt (up z + o) (dn z)) (dec_lt (up z + o - dn z) len)
  where
    first : Dec (up z + o < dn z) → Dec (up z + o - dn z < len) → Place o len z
    first (yes h) d = below h
    first (no h) (yes k) = inside (up z + o - dn z) k (omega arith)
    first (no h) (no k) = past (omega arith)

module _ (o len : ℕ) (c : List ℕ) (z : ℤ) where
  pub cell_in : (i : ℕ) → i < len → up z + o ≡ i + dn z → cell_at o len c z ≡ get_or c i 0
  unfolding cell_at found_cell
  cell_in i h e = ap (found_cell c) (sym (index_in (up z) (dn z) o len i (omega arith) h))

  pub cell_below : up z + o < dn z → cell_at o len c z ≡ 0
  unfolding cell_at found_cell
  cell_below h = ap (found_cell c) (sym (index_before (up z) (dn z) o len (omega arith)))

  pub cell_past : len + dn z ≤ up z + o → cell_at o len c z ≡ 0
  unfolding cell_at found_cell
  cell_past h = ap (found_cell c) (sym (index_past (up z) (dn z) o len (omega arith)))

-- the cell at the position of an index
pub cell_of_index : (o len : ℕ) (c : List ℕ) (i : ℕ) → i < len → cell_at o len c (i ⊖ o) ≡ get_or c i 0
cell_of_index o len c i h = cell_in o len c (i ⊖ o) i h (omega (arith, diff-⊖ i o))

-- ---- a growth changes no cell at any position

-- a growth takes no cells from either side
grown_wide : (n : ℕ) (h : Held) (d : Dir) → (h.tape.origin ≤ (grown_by n h d).tape.origin) × (h.tape.len + (grown_by n h d).tape.origin ≤ (grown_by n h d).tape.len + h.tape.origin)
unfolding grown_by
grown_wide n h L = (omega arith, omega arith)
grown_wide n h R = (omega arith, omega arith)
grown_wide n h N = (omega arith, omega arith)

pub grown_cell : (n : ℕ) (h : Held) → h.tape.len + n ≤ length h.cells → (z : ℤ) (d : Dir) → cell_of (grown_by n h d) z ≡ cell_of h z
grown_cell n h room z d = by (grown_wide n h d) (place (grown_by n h d).tape.origin (grown_by n h d).tape.len z)
  where
    at : (j : ℕ) → j < (grown_by n h d).tape.len → up z + (grown_by n h d).tape.origin ≡ j + dn z → GrownCell h (grown_by n h d) j → cell_of (grown_by n h d) z ≡ cell_of h z
    at j b e (old k l p q) = cell_in _ _ _ z j b e ∙ q ∙ sym (cell_in _ _ _ z k l (omega arith))
    at j b e (new_low p q) = cell_in _ _ _ z j b e ∙ q ∙ sym (cell_below _ _ _ z (omega arith))
    at j b e (new_high p q) = cell_in _ _ _ z j b e ∙ q ∙ sym (cell_past _ _ _ z (omega arith))

    by : (h.tape.origin ≤ (grown_by n h d).tape.origin) × (h.tape.len + (grown_by n h d).tape.origin ≤ (grown_by n h d).tape.len + h.tape.origin)
        → Place (grown_by n h d).tape.origin (grown_by n h d).tape.len z → cell_of (grown_by n h d) z ≡ cell_of h z
    by w (below b) = cell_below _ _ _ z b ∙ sym (cell_below _ _ _ z (omega arith))
    by w (past b) = cell_past _ _ _ z b ∙ sym (cell_past _ _ _ z (omega arith))
    by w (inside j b e) = at j b e (grown_holds n h room d j b)
