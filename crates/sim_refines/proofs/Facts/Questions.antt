-- The answers to the questions on one tape agree with the table machine's tape at every position. `cell_of` gives its cells by definition.
-- Assumes nothing.
use Rattle.std.specs.Prelude.{◌≡◌, refl, ◌↔◌, List, ℕ, suc, ◌+◌, ◌≤◌, ◌<◌, ◌^◌, ℤ, pos, negsuc, ◌+ℤ◌, length, get_or, None, Option}
use Rattle.std.proofs.Common.{sym, ◌∙◌, arith, ne_eqb}
use Rattle.std.proofs.Math.Decide.{dec_lt}
use Rattle.std.proofs.lemmas.Bool.{eqb-false}
use Rattle.notation.proofs.Facts.Fill.{length_fill}
use Rattle.notation.specs.Position.{◌⊖◌, up, dn}
use Rattle.notation.proofs.Facts.Position.{ints, diff-⊖}
use Rattle.notation.specs.ScanDown.{count_fails}
use Rattle.symbol.specs.Model.{raised_of}
use Rattle.symbol.specs.declared.Dir.{Dir}
use Rattle.tape.specs.declared.Span.{Span}
use Rattle.tape.specs.Model.Moves.{Held}
use Rattle.tape.specs.Model.Questions.{cell_of, blank_at, non_blank_of, count_of, window_cell, window_from, window_of, find_of}
use Rattle.tape.proofs.Facts.CellPlaces.{Place, below, inside, past, place, cell_in, cell_below, cell_past, cell_of_index}
use Rattle.tape.specs.Answers.{Toward, Finds, no_cell, nearest, Spans, no_cells, range}
use Rattle.tape.proofs.Facts.Answers.{find_says, non_blank_says, window_cell_holds, window_past}
use Rattle.sim_refines.specs.Meaning.{tape_of}
use Rattle.sim_refines.specs.Counts.{Among, Counts}
use Rattle.sim_refines.proofs.Facts.Counts.{Fails, fails_of}

-- ---- the nearest non-blank cell: none exactly where there is no such cell, else the nearest

module _ (h : Held) (z : ℤ) (d : Dir) where
  pub find_is : Finds (tape_of h).cell z d (find_of h z d)
  find_is = find_says h z d

  pub find_exact : (find_of h z d ≡ None) ↔ ((y : ℤ) → Toward d z y → (tape_of h).cell y ≡ 0)
  find_exact = (λ e. says (rw e at find_is), λ r. holds r find_is)
    where
      says : Finds (tape_of h).cell z d None → (y : ℤ) → Toward d z y → (tape_of h).cell y ≡ 0
      says (no_cell r) = r

      holds : ((y : ℤ) → Toward d z y → (tape_of h).cell y ≡ 0) → {x : Option ℤ} → Finds (tape_of h).cell z d x → x ≡ None
      holds r (no_cell q) = refl
      holds r (nearest y t w q) = absurd (w (r y t))

-- ---- the range of the non-blank cells: empty exactly where all are blank, else the lowest and the highest

module _ (h : Held) where
  pub non_blank_is : Spans (tape_of h).cell (non_blank_of h)
  non_blank_is = non_blank_says h

  pub non_blank_exact : (non_blank_of h ≡ None) ↔ ((y : ℤ) → (tape_of h).cell y ≡ 0)
  non_blank_exact = (λ e. says (rw e at non_blank_is), λ r. holds r non_blank_is)
    where
      says : Spans (tape_of h).cell None → (y : ℤ) → (tape_of h).cell y ≡ 0
      says (no_cells r) = r

      holds : ((y : ℤ) → (tape_of h).cell y ≡ 0) → {x : Option Span} → Spans (tape_of h).cell x → x ≡ None
      holds r (no_cells q) = refl
      holds r (range a b v w p q) = absurd (v (r a))

-- ---- the window

diff-+pos : (z : ℤ) (j : ℕ) → up (z +ℤ pos j) + dn z ≡ up z + j + dn (z +ℤ pos j)
unfolding ◌⊖◌
diff-+pos (pos a) j = omega arith
diff-+pos (negsuc a) j = omega (arith, diff-⊖ j (suc a))

-- one of up and dn is 0
no_dn : (z : ℤ) → 1 ≤ up z → dn z ≡ 0
no_dn (pos a) h = refl
no_dn (negsuc a) h = absurd (omega arith)

module _ (h : Held) (z : ℤ) (out : List ℕ) where
  pub window_length : length (window_of h z out) ≡ length out
  unfolding window_from
  window_length = length_fill (window_cell h (raised_of z)) (length out) 0 out

  -- place j holds the cell at z + j. Past i64 it is blank, and so is the tape, whose cells end before that
  pub window_is : dn z ≤ 2 ^ 63 → h.tape.len ≤ 2 ^ 63 → (j : ℕ) → j < length out → get_or (window_of h z out) j 0 ≡ (tape_of h).cell (z +ℤ pos j)
  window_is low short j there = by (dec_lt (up (z +ℤ pos j)) (2 ^ 63))
    where
      by : Dec (up (z +ℤ pos j) < 2 ^ 63) → get_or (window_of h z out) j 0 ≡ (tape_of h).cell (z +ℤ pos j)
      by (yes l) = window_cell_holds h z low out j there (z +ℤ pos j) (diff-+pos z j) l
      by (no l) =
          let p : dn (z +ℤ pos j) ≡ 0 = no_dn (z +ℤ pos j) (omega arith) in
          window_past h z low out j there (omega (arith, diff-+pos z j)) ∙ sym (cell_past _ _ _ (z +ℤ pos j) (omega arith))

-- ---- how many cells are not blank

pub count_is : (h : Held) → Counts (tape_of h).cell (count_of h)
unfolding count_of
count_is h =
    let f : Fails (blank_at h.cells) h.tape.len (count_fails (blank_at h.cells) h.tape.len) = fails_of (blank_at h.cells) h.tape.len in
    record {
      at = λ i. f.at i ⊖ o;
      rising = λ i j l b. omega (ints, f.rising i j l b, diff-⊖ (f.at i) o, diff-⊖ (f.at j) o);
      written = λ i b e. eqb-false _ _ (f.fails i b) (sym (cell_of_index _ _ _ (f.at i) (f.below i b)) ∙ e);
      all = λ z w. by f z w (place o h.tape.len z);
    }
  where
    o : ℕ
    o = h.tape.origin

    by : (f : Fails (blank_at h.cells) h.tape.len (count_of h)) (z : ℤ) → ¬ (cell_of h z ≡ 0) → Place o h.tape.len z → Among (λ i. f.at i ⊖ o) (count_of h) z
    by f z w (below b) = absurd (w (cell_below _ _ _ z b))
    by f z w (past b) = absurd (w (cell_past _ _ _ z b))
    by f z w (inside i b e) =
        let r : Among f.at (count_of h) i = f.all i b (ne_eqb _ _ (λ q. w (cell_in _ _ _ z i b e ∙ q))) in
        record { number = r.number; below = r.below; is = omega (ints, diff-⊖ (f.at r.number) o) }
