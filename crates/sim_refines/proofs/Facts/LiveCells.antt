-- Bytes past a tape's length are never read: two buffers of one length that agree up to there give the same answers, and still agree after. Assumes nothing.
use Rattle.std.proofs.Math.Path.{◌≡◌, refl, sym, ap, subst⁻¹}
use Rattle.std.proofs.Common.{◌∙◌, arith, ltb-true, length-set, get_or-set_same, get_or-set_other}
use Rattle.std.specs.Prelude.{Bool, true, false, List, eqb, ℤ, length, get_or, set, None, Some}
use Prim.Native.Nat.{ℕ, zero, suc, ◌+◌, ◌-◌, ◌≤◌, ◌<◌, ◌^◌}
use Rattle.std.proofs.Math.Decide.{ℕ_discrete}
use Rattle.std.proofs.Math.Dec.{ltb}
use Rattle.notation.specs.Choice.{pick, both}
use Rattle.notation.specs.Fill.{fill_from}
use Rattle.notation.specs.Scan.{all_in, first_fail}
use Rattle.notation.specs.ScanDown.{last_fail, count_fails}
use Rattle.notation.specs.Position.{◌⊖◌, up, dn}
use Rattle.symbol.specs.Kinds.{symbol_in}
use Rattle.symbol.specs.Model.{raised_of}
use Rattle.symbol.specs.declared.Dir.{Dir}
use Rattle.symbol.specs.declared.Dir.TheVariants.{L, R, N}
use Rattle.tape.specs.declared.Tape.{Tape}
use Rattle.tape_cells.specs.Growth.{extra}
use Rattle.tape_cells.proofs.Facts.Growth.{extra-within}
use Rattle.tape.specs.Model.Moves.{Held, held, read_of, leaves, grown_by, grow_of, shift_of, shifted, move_of, act_of}
use Rattle.tape.specs.Fits.{shape_fits, tape_fits}
use Rattle.tape.specs.Model.Questions.{blank_at, blank_beyond, cell_of, first_written, last_written, span_of, non_blank_of, count_of, window_from, window_of, spot_of, find_of}
use Rattle.tape_positions.specs.Model.{raised_at, cells_below}
use Rattle.tape.proofs.Facts.Cells.{length_grown}
use Rattle.tape.proofs.Facts.CellPlaces.{Place, below, inside, past, place, cell_in, cell_below, cell_past, cell_of_index, grown_cell}
use Rattle.sim_refines.specs.Lent.{SameFirst}
use Rattle.sim_refines.proofs.Facts.PastLength.{shift_len}

-- two choices by the same test
pub pick_two : {A : Type 0} (P : A → A → Type 0) (b : Bool) (w x y z : A) → (b ≡ true → P w y) → (b ≡ false → P x z) → P (pick b w x) (pick b y z)
unfolding pick
pick_two P true w x y z f g = f refl
pick_two P false w x y z f g = g refl

-- ---- scans by two tests that agree on the range scanned

module _ (p q : ℕ → Bool) where
  all_same : (n i : ℕ) → ((j : ℕ) → i ≤ j → j < i + n → p j ≡ q j) → all_in p n i ≡ all_in q n i
  unfolding all_in
  all_same zero i h = refl
  all_same (suc n) i h = λ x. both (h i (omega arith) (omega arith) x) (all_same n (i + 1) (λ j a b. h j (omega arith) (omega arith)) x)

  first_same : (n i : ℕ) → ((j : ℕ) → i ≤ j → j < i + n → p j ≡ q j) → first_fail p n i ≡ first_fail q n i
  unfolding first_fail
  first_same zero i h = refl
  first_same (suc n) i h = λ x. pick (h i (omega arith) (omega arith) x) (first_same n (i + 1) (λ j a b. h j (omega arith) (omega arith)) x) (Some i)

  last_same : (n : ℕ) → ((j : ℕ) → j < n → p j ≡ q j) → last_fail p n ≡ last_fail q n
  unfolding last_fail
  last_same zero h = refl
  last_same (suc n) h = λ x. pick (h n (omega arith) x) (last_same n (λ j l. h j (omega arith)) x) (Some n)

  count_same : (n : ℕ) → ((j : ℕ) → j < n → p j ≡ q j) → count_fails p n ≡ count_fails q n
  unfolding count_fails
  count_same zero h = refl
  count_same (suc n) h = λ x. count_same n (λ j l. h j (omega arith)) x + pick (h n (omega arith) x) 0 1

-- ---- one tape over two buffers: what is read is the same

module _ (t : Tape) (c d : List ℕ) (same : SameFirst t.len c d) where
  blank_same : (j : ℕ) → j < t.len → blank_at c j ≡ blank_at d j
  blank_same j l = ap (λ x. eqb x 0) (same j l)

  pub read_same : read_of (held t c) ≡ read_of (held t d)
  unfolding read_of
  read_same = pick_two ◌≡◌ (ltb t.head t.len) _ _ _ _ (λ e. same t.head (ltb-true _ _ e)) (λ e. refl)

  pub beyond_same : t.head ≤ t.len → (s : Dir) → blank_beyond (held t c) s ≡ blank_beyond (held t d) s
  unfolding blank_beyond
  beyond_same h L = all_same (blank_at c) (blank_at d) t.head 0 (λ j a b. blank_same j (omega arith))
  beyond_same h R = all_same (blank_at c) (blank_at d) (t.len - (t.head + 1)) (t.head + 1) (λ j a b. blank_same j (omega arith))
  beyond_same h N = refl

  pub cell_same : (z : ℤ) → cell_of (held t c) z ≡ cell_of (held t d) z
  cell_same z = by (place t.origin t.len z)
    where
      by : Place t.origin t.len z → cell_of (held t c) z ≡ cell_of (held t d) z
      by (below b) = cell_below _ _ _ z b ∙ sym (cell_below _ _ _ z b)
      by (past b) = cell_past _ _ _ z b ∙ sym (cell_past _ _ _ z b)
      by (inside i b q) = cell_in _ _ _ z i b q ∙ same i b ∙ sym (cell_in _ _ _ z i b q)

  pub fits_same : (k : ℕ) → length c ≡ length d → tape_fits k t c ≡ tape_fits k t d
  unfolding tape_fits
  fits_same k room = λ i. both (shape_fits t (room i)) (all_same (symbol_in k c) (symbol_in k d) t.len 0 (λ j a b. ap (λ x. ltb x k) (same j (omega arith))) i)

  -- ---- the questions

  pub non_blank_same : non_blank_of (held t c) ≡ non_blank_of (held t d)
  unfolding non_blank_of first_written last_written
  non_blank_same = λ i. span_of t.origin ((first_same (blank_at c) (blank_at d) (t.len - 0) 0 (λ j a b. blank_same j (omega arith)) i))
      (last_same (blank_at c) (blank_at d) t.len blank_same i)

  pub counts_same : count_of (held t c) ≡ count_of (held t d)
  unfolding count_of
  counts_same = count_same (blank_at c) (blank_at d) t.len blank_same

  pub window_same : (z : ℤ) (out : List ℕ) → window_of (held t c) z out ≡ window_of (held t d) z out
  unfolding window_from raised_at
  window_same z out = λ i. fill_from (λ j. pick (ltb (raised_of z + j) (2 ^ 64)) (cell_same ((raised_of z + j) ⊖ 2 ^ 63) i) 0) (length out) 0 out

  pub find_same : (z : ℤ) (s : Dir) → find_of (held t c) z s ≡ find_of (held t d) z s
  unfolding find_of first_written last_written
  find_same z L =
      let n : ℕ = cells_below (up z) (dn z) (t.origin + 1) t.len in
      ap (λ x. spot_of t.origin (x)) (last_same (blank_at c) (blank_at d) n (λ j l. blank_same j (omega arith)))
  find_same z R =
      let n : ℕ = cells_below (up z) (dn z) t.origin t.len in
      ap (λ x. spot_of t.origin (x)) (first_same (blank_at c) (blank_at d) (t.len - n) n (λ j a b. blank_same j (omega arith)))
  find_same z N = ap (λ x. pick (eqb x 0) None (Some z)) (cell_same z)

-- ---- tapes of the same numbers, with the same cells up to their length, and buffers of the same length

pub record Alike (g h : Held) : Type 0 where
  pub numbers : g.tape ≡ h.tape
  pub room : length g.cells ≡ length h.cells
  pub cells : SameFirst h.tape.len g.cells h.cells

-- a function gives the same for both if it gives the same over both buffers
pub alike_reads : {A : Type 0} (F : Held → A) (g h : Held) → Alike g h → F (held h.tape g.cells) ≡ F h → F g ≡ F h
alike_reads F g h a e = ap (λ t. F (held t g.cells)) a.numbers ∙ e

-- ---- a write and a move

shift_alike : (g h : Held) (s : Dir) → Alike g h → Alike (shifted g s) (shifted h s)
shift_alike g h s a = record {
  numbers = ap (λ t. shift_of t s) a.numbers;
  room = a.room;
  cells = λ i l. a.cells i (omega (arith, shift_len h.tape s));
}

module _ (t : Tape) (c d : List ℕ) (room : length c ≡ length d) (same : SameFirst t.len c d) (fits : t.len ≤ length d) where
  grown_same : (n : ℕ) (s : Dir) → t.len + n ≤ length d → Alike (grown_by n (held t c) s) (grown_by n (held t d) s)
  unfolding grown_by
  grown_same n s more = record { numbers = numbers s; room = length_grown n (held t c) s ∙ room ∙ sym (length_grown n (held t d) s); cells = cells s }
    where
      numbers : (s : Dir) → (grown_by n (held t c) s).tape ≡ (grown_by n (held t d) s).tape
      numbers L = refl
      numbers R = refl
      numbers N = refl

      at : (s : Dir) (z : ℤ) → cell_of (grown_by n (held t c) s) z ≡ cell_of (grown_by n (held t d) s) z
      at s z = grown_cell n (held t c) (omega arith) z s ∙ cell_same t c d same z ∙ sym (grown_cell n (held t d) more z s)

      cells : (s : Dir) → SameFirst (grown_by n (held t d) s).tape.len (grown_by n (held t c) s).cells (grown_by n (held t d) s).cells
      cells L = λ i l. sym (cell_of_index (t.origin + n) (t.len + n) _ i l) ∙ at L (i ⊖ (t.origin + n)) ∙ cell_of_index (t.origin + n) (t.len + n) _ i l
      cells R = λ i l. sym (cell_of_index t.origin (t.len + n) _ i l) ∙ at R (i ⊖ t.origin) ∙ cell_of_index t.origin (t.len + n) _ i l
      cells N = same

  grow_same : (s : Dir) → Alike (grow_of (held t c) s) (grow_of (held t d) s)
  grow_same s = subst⁻¹ (λ n. Alike (grown_by (extra t.len n) (held t c) s) (grow_of (held t d) s)) room (grown_same (extra t.len (length d)) s (extra-within t.len (length d) fits))

  move_same : (s : Dir) → Alike (move_of (held t c) s) (move_of (held t d) s)
  unfolding move_of
  move_same s = pick_two (λ x y. Alike (shifted x s) (shifted y s)) (leaves t s) _ _ _ _
      (λ e. shift_alike _ _ s (grow_same s))
      (λ e. shift_alike _ _ s (record { numbers = refl; room = room; cells = same }))

  write_same : (w : ℕ) → t.head < t.len → SameFirst t.len (set c t.head w) (set d t.head w)
  write_same w here i l = by (ℕ_discrete i t.head)
    where
      by : Dec (i ≡ t.head) → get_or (set c t.head w) i 0 ≡ get_or (set d t.head w) i 0
      by (yes e) = rw (e, get_or-set_same c t.head w 0 (omega arith), get_or-set_same d t.head w 0 (omega arith)) refl
      by (no e) = get_or-set_other c t.head i w 0 e ∙ same i l ∙ sym (get_or-set_other d t.head i w 0 e)

act-same : (t : Tape) (c d : List ℕ) → length c ≡ length d → SameFirst t.len c d → t.len ≤ length d → (w : ℕ) (s : Dir) → Alike (act_of (held t c) w s) (act_of (held t d) w s)
unfolding act_of
act-same t c d room same fits w s = pick_two Alike (ltb t.head t.len) _ _ _ _
    (λ e. move_same t (set c t.head w) (set d t.head w) (length-set c t.head w ∙ room ∙ sym (length-set d t.head w)) (write_same t c d room same fits w (ltb-true _ _ e))
    (omega (arith, length-set d t.head w)) s)
    (λ e. record { numbers = refl; room = room; cells = same })

pub act_alike : (g h : Held) → Alike g h → h.tape.len ≤ length h.cells → (w : ℕ) (s : Dir) → Alike (act_of g w s) (act_of h w s)
act_alike g h a fits w s = subst⁻¹ (λ t. Alike (act_of (held t g.cells) w s) (act_of h w s)) a.numbers (act-same h.tape g.cells h.cells a.room a.cells fits w s)
