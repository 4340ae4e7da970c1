-- The answers to the questions on one tape are right: `find_of`, `non_blank_of` and `window_of` agree with the cells at the positions.
-- Assumes nothing.
use Rattle.std.specs.Prelude.{◌≡◌, true, false, List, eqb, ℤ, length, get_or, None, Option, Some}
use Rattle.std.proofs.Math.Path.{refl, ap}
use Rattle.std.proofs.Common.{sym, ◌∙◌}
use Prim.Native.Nat.{ℕ, ◌+◌, ◌-◌, ◌≤◌, ◌<◌, ◌^◌}
use native.Mathlib.Omega.{arith}
use borrow.Author.Tests.{lt-ltb, le-ltb, eqb-true, eqb-false, eq-eqb}
use Rattle.notation.proofs.Facts.Fill.{fill_in}
use Rattle.notation.specs.Position.{◌⊖◌, up, dn}
use Rattle.notation.proofs.Facts.Position.{ints, diff-⊖}
use Rattle.notation.proofs.Facts.Scan.{Scanned, scanned, clean, failed, all_says, all_holds}
use Rattle.notation.proofs.Facts.ScanDown.{ScannedDown, scanned_down}
use Rattle.notation.proofs.Facts.ScanDown as down
use Rattle.notation.proofs.Facts.Tests.{clash, pick_cases, pick_true, pick_false}
use Rattle.symbol.specs.Model.{raised_of}
use Rattle.symbol.specs.declared.Dir.{Dir}
use Rattle.symbol.specs.declared.Dir.TheVariants.{L, R, N}
use Rattle.tape.specs.Model.Moves.{Held}
use Rattle.tape.specs.Model.Questions.{blank_at, blank_beyond, cell_of, first_written, last_written, span_of, non_blank_of, window_cell, window_from, window_of, spot_of, find_of}
use Rattle.tape_positions.specs.Model.{raised_at, cells_below}
use Rattle.tape.proofs.Facts.CellPlaces.{Place, below, inside, past, place, cell_in, cell_below, cell_past, cell_of_index}
use Rattle.tape.specs.Answers.{Before, Finds, no_cell, nearest, Spans, no_cells, range}

-- the cell at a position is blank if the cell at its index, where that is inside the tape, is blank
module _ (h : Held) where
  blank_at_lem : (y : ℤ) → ((i : ℕ) → i < h.tape.len → up y + h.tape.origin ≡ i + dn y → blank_at h.cells i ≡ true) → cell_of h y ≡ 0
  blank_at_lem y r = by (place h.tape.origin h.tape.len y)
    where
      by : Place h.tape.origin h.tape.len y → cell_of h y ≡ 0
      by (below b) = cell_below _ _ _ y b
      by (past b) = cell_past _ _ _ y b
      by (inside i b e) = cell_in _ _ _ y i b e ∙ eqb-true _ _ (r i b e)

  written_at : (i : ℕ) → i < h.tape.len → blank_at h.cells i ≡ false → cell_of h (i ⊖ h.tape.origin) ≡ 0 → ⊥
  written_at i b z e = eqb-false (get_or h.cells i 0) 0 z (sym (cell_of_index _ _ _ i b) ∙ e)

  -- ---- the nearest non-blank cell

  find_left_says : (z : ℤ) → Finds (cell_of h) z L (find_of h z L)
  unfolding find_of last_written spot_of
  find_left_says z = by (scanned_down (blank_at h.cells) (cells_below (up z) (dn z) (h.tape.origin + 1) h.tape.len))
    where
      by : {x : Option ℕ} → ScannedDown (blank_at h.cells) (cells_below (up z) (dn z) (h.tape.origin + 1) h.tape.len) x
          → Finds (cell_of h) z L (spot_of h.tape.origin (x))
      by (down.clean r) = no_cell (λ y t. blank_at_lem y (λ i b e. r i (omega (ints, t))))
      by (down.failed j a w r) = nearest (j ⊖ h.tape.origin) (omega (ints, diff-⊖ j h.tape.origin)) (written_at j (omega arith) w)
          (λ y t n. blank_at_lem y (λ i b e. r i (omega (ints, t, n, diff-⊖ j h.tape.origin)) (omega (ints, t))))

  find_right_says : (z : ℤ) → Finds (cell_of h) z R (find_of h z R)
  unfolding find_of first_written spot_of
  find_right_says z = by (scanned (blank_at h.cells) (h.tape.len - start) start)
    where
      start : ℕ
      start = cells_below (up z) (dn z) h.tape.origin h.tape.len

      by : {x : Option ℕ} → Scanned (blank_at h.cells) (h.tape.len - start) start x → Finds (cell_of h) z R (spot_of h.tape.origin (x))
      by (clean r) = no_cell (λ y t. blank_at_lem y (λ i b e. r i (omega (ints, t)) (omega (ints, t))))
      by (failed j a b w r) = nearest (j ⊖ h.tape.origin) (omega (ints, diff-⊖ j h.tape.origin)) (written_at j (omega arith) w)
          (λ y t n. blank_at_lem y (λ i k e. r i (omega (ints, t)) (omega (ints, t, n, diff-⊖ j h.tape.origin))))

  find_here_says : (z : ℤ) → Finds (cell_of h) z N (find_of h z N)
  unfolding find_of
  find_here_says z = pick_cases (eqb (cell_of h z) 0) None (Some z) (Finds (cell_of h) z N)
      (λ t. no_cell (λ y e. rw e (eqb-true _ _ t)))
      (λ t. nearest z refl (eqb-false _ _ t) (λ y e b. absurd b))

  pub find_says : (z : ℤ) (d : Dir) → Finds (cell_of h) z d (find_of h z d)
  find_says z L = find_left_says z
  find_says z R = find_right_says z
  find_says z N = find_here_says z

  -- ---- the range of the non-blank cells

  pub non_blank_says : Spans (cell_of h) (non_blank_of h)
  unfolding non_blank_of first_written last_written span_of
  non_blank_says = by (scanned (blank_at h.cells) (h.tape.len - 0) 0) (scanned_down (blank_at h.cells) h.tape.len)
    where
      by : {x y : Option ℕ} → Scanned (blank_at h.cells) (h.tape.len - 0) 0 x → ScannedDown (blank_at h.cells) h.tape.len y
          → Spans (cell_of h) (span_of h.tape.origin (x) (y))
      by (clean r) s = no_cells (λ y. blank_at_lem y (λ i b e. r i (omega arith) (omega arith)))
      by (failed i a b w r) (down.clean s) = absurd (clash (s i (omega arith)) w)
      by (failed i a b w r) (down.failed j p v s) = range (i ⊖ h.tape.origin) (j ⊖ h.tape.origin) (written_at i (omega arith) w) (written_at j p v)
          (λ y t. blank_at_lem y (λ k q e. r k (omega arith) (omega (ints, t, diff-⊖ i h.tape.origin))))
          (λ y t. blank_at_lem y (λ k q e. s k (omega (ints, t, diff-⊖ j h.tape.origin)) q))

  -- ---- the cells beyond the head

  pub beyond_says : (d : Dir) → blank_beyond h d ≡ true → (z : ℤ) → Before d (h.tape.head ⊖ h.tape.origin) z → cell_of h z ≡ 0
  unfolding blank_beyond
  beyond_says L t z b = blank_at_lem z (λ i a e. all_says (blank_at h.cells) h.tape.head 0 t i (omega arith) (omega (ints, b, diff-⊖ h.tape.head h.tape.origin)))
  beyond_says R t z b = blank_at_lem z
      (λ i a e. all_says (blank_at h.cells) (h.tape.len - (h.tape.head + 1)) (h.tape.head + 1) t i (omega (ints, b, diff-⊖ h.tape.head h.tape.origin)) (omega arith))
  beyond_says N t z b = absurd b

  pub beyond_holds : (d : Dir) → (d ≡ N → ⊥) → h.tape.head ≤ h.tape.len → ((z : ℤ) → Before d (h.tape.head ⊖ h.tape.origin) z → cell_of h z ≡ 0)
      → blank_beyond h d ≡ true
  unfolding blank_beyond
  beyond_holds L s g r = all_holds (blank_at h.cells) h.tape.head 0
      (λ i a b. eq-eqb _ _ (sym (cell_of_index _ _ _ i (omega arith)) ∙ r (i ⊖ h.tape.origin) (omega (ints, diff-⊖ i h.tape.origin, diff-⊖ h.tape.head h.tape.origin))))
  beyond_holds R s g r = all_holds (blank_at h.cells) (h.tape.len - (h.tape.head + 1)) (h.tape.head + 1)
      (λ i a b. eq-eqb _ _ (sym (cell_of_index _ _ _ i (omega arith)) ∙ r (i ⊖ h.tape.origin) (omega (ints, diff-⊖ i h.tape.origin, diff-⊖ h.tape.head h.tape.origin))))
  beyond_holds N s g r = absurd (s refl)

  -- ---- the window: place j holds the cell at position z + j, which is y; past i64 it is blank

  module _ (z : ℤ) (fits : dn z ≤ 2 ^ 63) (out : List ℕ) (j : ℕ) (there : j < length out) where
    pub window_cell_holds : (y : ℤ) → up y + dn z ≡ up z + j + dn y → up y < 2 ^ 63 → get_or (window_of h z out) j 0 ≡ cell_of h y
    unfolding window_from raised_at
    window_cell_holds y e small =
        let b : raised_of z + j < 2 ^ 64 = omega arith in
        let p : (raised_of z + j) ⊖ 2 ^ 63 ≡ y = omega (ints, diff-⊖ (raised_of z + j) (2 ^ 63)) in
        fill_in (window_cell h (raised_of z)) (length out) 0 out j 0 (omega arith) (omega arith) there
        ∙ pick_true _ _ _ (lt-ltb _ _ b)
        ∙ ap (cell_of h) p

    pub window_past : 2 ^ 63 + dn z ≤ up z + j → get_or (window_of h z out) j 0 ≡ 0
    unfolding window_from raised_at
    window_past g =
        let b : 2 ^ 64 ≤ raised_of z + j = omega arith in
        fill_in (window_cell h (raised_of z)) (length out) 0 out j 0 (omega arith) (omega arith) there
        ∙ pick_false _ _ _ (le-ltb _ _ b)
