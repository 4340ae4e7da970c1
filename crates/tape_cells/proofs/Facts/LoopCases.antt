-- The loops over a tape's cells, one fact for each path through the code. Assumes nothing.
use Rattle.std.specs.Prelude.{◌≡◌, length, take, drop, eqb, not, All, MatchOption, position, None, Option, Some}
use Rattle.std.proofs.Math.Path.{sym, ap, refl}
use Rattle.std.proofs.Common.{◌∙◌}
use mathlib.Core.List.{List}
use Prim.Native.Nat.{ℕ, ◌+◌, ◌-◌, ◌≤◌, ◌<◌}
use native.Mathlib.Omega.{arith}
use Rattle.std.proofs.Math.ListN.{get_or, replicate}
use Rattle.std.proofs.lemmas.List.{length-replicate, get_or-replicate, length-take-le, get_or-take}
use borrow.Author.Tests.{eq-eqb, ne_eqb}
use Rattle.std.specs.List.{copy_within}
use borrow.Rule.Slice.PartMut.{put_mid}
use Rattle.notation.specs.Fill.{fill_from}
use Rattle.notation.proofs.Facts.Fill.{length_fill}
use Rattle.notation.proofs.Facts.Lists.{paste-fill, put_mid-fill, first-part-none, first-part-some, last_none, last_at}
use Rattle.notation.proofs.Facts.Scan.{Scanned, scanned, clean, failed}
use Rattle.notation.proofs.Facts.ScanDown.{ScannedDown, scanned_down}
use Rattle.notation.proofs.Facts.ScanDown as down
use Rattle.tape_cells.specs.Model.{blank_cell, placed, laid, moved_up, blanked, fresh_cells, reach, blank_at, found_cell, IsLastWritten, first_written, last_written}

-- ---- what the library's fill and copies leave in the cells

pub blanked-part : (from to n : ℕ) (c part : List ℕ) → from + n ≡ to → to ≤ length c → part ≡ replicate n 0 → put_mid from n c part ≡ blanked from to c
unfolding blanked
blanked-part from to n c part k h e =
    let m : n ≡ to - from = omega arith in
    put_mid-fill blank_cell from n c part (replicate n 0) e (sym (length-replicate n 0)) (λ j l. sym (get_or-replicate n j 0 0 (omega (arith, length-replicate {A = ℕ} n 0)))) (omega arith)
    ∙ ap (λ (i : ℕ). fill_from blank_cell i from c) m

placed-there : (at j : ℕ) (s : List ℕ) → placed at s (at + j) ≡ get_or s j 0
placed-there at j s = let e : at + j - at ≡ j = omega arith in rw e

pub laid-part : (at n : ℕ) (w c part : List ℕ) → n ≡ length w → at + n ≤ length c → part ≡ w → put_mid at n c part ≡ laid at w c
unfolding laid
laid-part at n w c part k h e = put_mid-fill (placed at w) at n c part w e k (λ j l. placed-there at j w) h ∙ ap (λ (i : ℕ). fill_from (placed at w) i at c) k

pub moved_up-copy : (by n : ℕ) (c : List ℕ) → n + by ≤ length c → copy_within c 0 n by ≡ moved_up by n c
unfolding moved_up
moved_up-copy by n c h =
    let k : n - 0 ≡ n = omega arith in
    rw k (paste-fill (placed by c) c c by n (λ j l. placed-there by j c) (omega arith) (omega arith))

-- ---- the blanks before the cells, and around the word

pub open_is : (c c₁ c₂ : List ℕ) (more len : ℕ) → c₁ ≡ moved_up more len c → c₂ ≡ blanked 0 more c₁ → c₂ ≡ blanked 0 more (moved_up more len c)
open_is c c₁ c₂ more len p q = q ∙ ap (blanked 0 more) p

length-blanked : (from to : ℕ) (c : List ℕ) → length (blanked from to c) ≡ length c
unfolding blanked
length-blanked from to c = length_fill blank_cell (to - from) from c

length-laid : (at : ℕ) (w c : List ℕ) → length (laid at w c) ≡ length c
unfolding laid
length-laid at w c = length_fill (placed at w) (length w) at c

pub fresh_is : (w c p₁ p₂ p₃ : List ℕ) (n k : ℕ) → 32 + length w ≤ length c → n ≡ length w → k ≡ 16 → p₁ ≡ replicate 16 0 → p₂ ≡ w → p₃ ≡ replicate k 0
    → put_mid (16 + length w) k (put_mid 16 n (put_mid 0 16 c p₁) p₂) p₃ ≡ fresh_cells w c
fresh_is w c p₁ p₂ p₃ n k h m l e₁ e₂ e₃ =
    let s₁ : length (blanked 0 16 c) ≡ length c = length-blanked 0 16 c in
    let s₂ : length (laid 16 w (blanked 0 16 c)) ≡ length (blanked 0 16 c) = length-laid 16 w (blanked 0 16 c) in
    ap (λ (x : List ℕ). put_mid (16 + length w) k (put_mid 16 n x p₂) p₃) (blanked-part 0 16 16 c p₁ refl (omega arith) e₁)
    ∙ ap (λ (x : List ℕ). put_mid (16 + length w) k x p₃) (laid-part 16 n w (blanked 0 16 c) p₂ m (omega arith) e₂)
    ∙ blanked-part (16 + length w) (32 + length w) k (laid 16 w (blanked 0 16 c)) p₃ (omega arith) (omega arith) e₃

-- ---- a scan finds one of the cells that it reads

pub first_reach : (c : List ℕ) (from to n : ℕ) (f : Option ℕ) → f ≡ first_written c from to → to ≤ n → reach f ≤ n
unfolding first_written
first_reach c from to n f e h = rw e (by (scanned (blank_at c) (to - from) from))
  where
    by : {x : Option ℕ} → Scanned (blank_at c) (to - from) from x → reach x ≤ n
    by (clean r) = omega arith
    by (failed j a b z r) = omega arith

pub last_reach : (c : List ℕ) (to n : ℕ) (f : Option ℕ) → f ≡ last_written c to → to ≤ n → reach f ≤ n
unfolding last_written
last_reach c to n f e h = rw e (by (scanned_down (blank_at c) to))
  where
    by : {x : Option ℕ} → ScannedDown (blank_at c) to x → reach x ≤ n
    by (down.clean r) = omega arith
    by (down.failed j a z r) = omega arith

-- ---- the cell at an index that was found

module _ (c : List ℕ) (f : Option ℕ) where
  pub found_at : (i : ℕ) → f ≡ Some i → get_or c i 0 ≡ found_cell c f
  unfolding found_cell
  found_at i e = rw e

  pub found_none : f ≡ None → 0 ≡ found_cell c f
  unfolding found_cell
  found_none e = rw e

-- ---- what the scans of a part of the cells find

module _ (c : List ℕ) (from to : ℕ) (h : to ≤ length c) (g : from ≤ to) where
  pub first-none : None ≡ position (λ x. not (eqb x 0)) (take (to - from) (drop from c)) → None ≡ first_written c from to
  unfolding first_written
  first-none e = first-part-none (λ x. eqb x 0) c from (to - from) (omega arith) e

  pub first-some : (i : ℕ) → Some i ≡ position (λ x. not (eqb x 0)) (take (to - from) (drop from c)) → Some (from + i) ≡ first_written c from to
  unfolding first_written
  first-some i e = first-part-some (λ x. eqb x 0) c from (to - from) (omega arith) i e

pub first-front : (c : List ℕ) (n : ℕ) (r : Option ℕ) → n ≤ length c → r ≡ position (λ x. not (eqb x 0)) (take n c) → r ≡ first_written c 0 n
first-front c n r h e = by r (e ∙ ap (λ (m : ℕ). position (λ x. not (eqb x 0)) (take m c)) k)
  where
    k : n ≡ n - 0
    k = omega arith

    by : (f : Option ℕ) → f ≡ position (λ x. not (eqb x 0)) (take (n - 0) c) → f ≡ first_written c 0 n
    by None q = first-none c 0 n h (omega arith) q
    by (Some i) q = let z : i ≡ 0 + i = omega arith in ap (λ (m : ℕ). Some m) z ∙ first-some c 0 n h (omega arith) i q

pub last-front : (c : List ℕ) (n : ℕ) (r : Option ℕ) → n ≤ length c → MatchOption r (All (λ x. x ≡ 0) (take n c)) (IsLastWritten (take n c)) → r ≡ last_written c n
unfolding last_written
last-front c n None h all = last_none (blank_at c) n (λ j b.
    let k : j < length (take n c) = omega (arith, length-take-le n c h) in
    eq-eqb _ _ (rw (get_or-take n c j 0 b) at (all j 0 k)))
last-front c n (Some i) h (a, z, above) =
    let b : i < n = omega (arith, length-take-le n c h) in
    last_at (blank_at c) n i b (ne_eqb _ _ (λ e. z (get_or-take n c i 0 b ∙ e))) (λ j d k.
    let l : j < length (take n c) = omega (arith, length-take-le n c h) in
    eq-eqb _ _ (rw (get_or-take n c j 0 k) at (above j d l)))
