-- The contents of the buffer at each index after a fresh start, a write and a growth. Bytes past the final length stay. Assumes nothing.
use Rattle.std.specs.Prelude.{◌≡◌, List, ℕ, ◌+◌, ◌-◌, ◌≤◌, ◌<◌, length, get_or}
use Rattle.std.proofs.Math.Path.{refl}
use Rattle.std.proofs.Common.{◌∙◌}
use Rattle.std.proofs.Math.Decide.{dec_lt}
use native.Mathlib.Omega.{arith}
use Rattle.notation.proofs.Facts.Fill.{length_fill, fill_before, fill_past, fill_in}
use Rattle.symbol.specs.declared.Dir.{Dir}
use Rattle.symbol.specs.declared.Dir.TheVariants.{L, R, N}
use Rattle.tape.specs.Model.Moves.{Held, blank_cell, blanked, placed, laid, moved_up, fresh_of, grown_by}

-- ---- the three ways of writing

module _ (from to : ℕ) (c : List ℕ) where
  pub length_blanked : length (blanked from to c) ≡ length c
  unfolding blanked
  length_blanked = length_fill blank_cell (to - from) from c

  pub blanked_in : (i : ℕ) → from ≤ i → i < to → to ≤ length c → get_or (blanked from to c) i 0 ≡ 0
  unfolding blanked
  blanked_in i a b h = fill_in blank_cell (to - from) from c i 0 a (omega arith) (omega arith)

  pub blanked_before : (i : ℕ) → i < from → get_or (blanked from to c) i 0 ≡ get_or c i 0
  unfolding blanked
  blanked_before i a = fill_before blank_cell (to - from) from c i 0 a

  pub blanked_past : (i : ℕ) → from ≤ to → to ≤ i → get_or (blanked from to c) i 0 ≡ get_or c i 0
  unfolding blanked
  blanked_past i h a = fill_past blank_cell (to - from) from c i 0 (omega arith)

module _ (at : ℕ) (w c : List ℕ) where
  pub length_laid : length (laid at w c) ≡ length c
  unfolding laid
  length_laid = length_fill (placed at w) (length w) at c

  pub laid_in : (i : ℕ) → at ≤ i → i < at + length w → at + length w ≤ length c → get_or (laid at w c) i 0 ≡ get_or w (i - at) 0
  unfolding laid
  laid_in i a b h = fill_in (placed at w) (length w) at c i 0 a b (omega arith)

  pub laid_before : (i : ℕ) → i < at → get_or (laid at w c) i 0 ≡ get_or c i 0
  unfolding laid
  laid_before i a = fill_before (placed at w) (length w) at c i 0 a

  pub laid_past : (i : ℕ) → at + length w ≤ i → get_or (laid at w c) i 0 ≡ get_or c i 0
  unfolding laid
  laid_past i a = fill_past (placed at w) (length w) at c i 0 a

module _ (by n : ℕ) (c : List ℕ) where
  pub length_moved_up : length (moved_up by n c) ≡ length c
  unfolding moved_up
  length_moved_up = length_fill (placed by c) n by c

  pub moved_up_in : (i : ℕ) → by ≤ i → i < by + n → by + n ≤ length c → get_or (moved_up by n c) i 0 ≡ get_or c (i - by) 0
  unfolding moved_up
  moved_up_in i a b h = fill_in (placed by c) n by c i 0 a b (omega arith)

  pub moved_up_past : (i : ℕ) → by + n ≤ i → get_or (moved_up by n c) i 0 ≡ get_or c i 0
  unfolding moved_up
  moved_up_past i a = fill_past (placed by c) n by c i 0 a

-- ---- a fresh tape

module _ (w c : List ℕ) where
  pub length_fresh : length (fresh_of w c).cells ≡ length c
  unfolding fresh_of
  length_fresh = length_blanked _ _ _ ∙ length_laid _ _ _ ∙ length_blanked _ _ _

  module _ (fits : 32 + length w ≤ length c) where
    pub fresh_low : (i : ℕ) → i < 16 → get_or (fresh_of w c).cells i 0 ≡ 0
    unfolding fresh_of
    fresh_low i h =
        blanked_before _ _ _ i (omega arith)
        ∙ laid_before 16 w (blanked 0 16 c) i h
        ∙ blanked_in 0 16 c i (omega arith) h (omega arith)

    pub fresh_word : (i : ℕ) → 16 ≤ i → i < 16 + length w → get_or (fresh_of w c).cells i 0 ≡ get_or w (i - 16) 0
    unfolding fresh_of
    fresh_word i a b = blanked_before _ _ _ i b ∙ laid_in 16 w (blanked 0 16 c) i a b (omega (arith, length_blanked 0 16 c))

    pub fresh_high : (i : ℕ) → 16 + length w ≤ i → i < 32 + length w → get_or (fresh_of w c).cells i 0 ≡ 0
    unfolding fresh_of
    fresh_high i a b = blanked_in _ _ _ i a b (omega (arith, length_laid 16 w (blanked 0 16 c), length_blanked 0 16 c))

  pub fresh_past : (i : ℕ) → 32 + length w ≤ i → get_or (fresh_of w c).cells i 0 ≡ get_or c i 0
  unfolding fresh_of
  fresh_past i a =
      blanked_past _ _ _ i (omega arith) a
      ∙ laid_past 16 w (blanked 0 16 c) i (omega arith)
      ∙ blanked_past 0 16 c i (omega arith) (omega arith)

-- ---- growth by n cells

-- cell i of the grown tape g is the cell of h at the same position, or a new blank below or past the cells of h
pub data GrownCell (h g : Held) (i : ℕ) : Type 0 where
  old : (j : ℕ) → j < h.tape.len → i + h.tape.origin ≡ j + g.tape.origin → get_or g.cells i 0 ≡ get_or h.cells j 0 → GrownCell h g i
  new_low : i + h.tape.origin < g.tape.origin → get_or g.cells i 0 ≡ 0 → GrownCell h g i
  new_high : h.tape.len + g.tape.origin ≤ i + h.tape.origin → get_or g.cells i 0 ≡ 0 → GrownCell h g i

module _ (n : ℕ) (h : Held) where
  pub length_grown : (d : Dir) → length (grown_by n h d).cells ≡ length h.cells
  unfolding grown_by
  length_grown L = length_blanked _ _ _ ∙ length_moved_up _ _ _
  length_grown R = length_blanked _ _ _
  length_grown N = refl

  pub grown_holds : h.tape.len + n ≤ length h.cells → (d : Dir) (i : ℕ) → i < (grown_by n h d).tape.len → GrownCell h (grown_by n h d) i
  unfolding grown_by
  grown_holds fits L i b = by (dec_lt i n)
    where
      by : Dec (i < n) → GrownCell h (grown_by n h L) i
      by (yes q) = new_low (omega arith) (blanked_in _ _ _ i (omega arith) q (omega (arith, length_moved_up n h.tape.len h.cells)))
      by (no q) =
          let a : n ≤ i = omega arith in
          old (i - n) (omega arith) (omega arith) (blanked_past _ _ _ i (omega arith) a ∙ moved_up_in n h.tape.len h.cells i a (omega arith) (omega arith))
  grown_holds fits R i b = by (dec_lt i h.tape.len)
    where
      by : Dec (i < h.tape.len) → GrownCell h (grown_by n h R) i
      by (yes q) = old i q refl (blanked_before _ _ _ i q)
      by (no q) = new_high (omega arith) (blanked_in _ _ _ i (omega arith) b fits)
  grown_holds fits N i b = old i b refl refl

  pub grown_past : (d : Dir) (i : ℕ) → h.tape.len + n ≤ i → get_or (grown_by n h d).cells i 0 ≡ get_or h.cells i 0
  unfolding grown_by
  grown_past L i a = blanked_past _ _ _ i (omega arith) (omega arith) ∙ moved_up_past n h.tape.len h.cells i (omega arith)
  grown_past R i a = blanked_past _ _ _ i (omega arith) a
  grown_past N i a = refl
