-- The library's words on lists, as fills, scans and counts over places. Assumes nothing.
use Rattle.std.specs.Prelude.{◌≡◌, refl, Bool, true, false, not, ◌↔◌, List, ℕ, zero, suc, ◌+◌, ◌-◌, ◌≤◌, ◌<◌, length, get_or, set, take, drop, None, Option, Some, ltb}
use Rattle.std.proofs.Common.{sym, ap, ◌∙◌, arith, add-zero, add-one}
use Rattle.std.specs.List.{All, count_by, position, position_or_len}
use Rattle.std.specs.Bool.{IsTrue}
use Rattle.std.proofs.Math.Seq.{paste}
use Rattle.std.proofs.lemmas.List.Edits.{paste_none, paste_more}
use Rattle.std.proofs.lemmas.Bool.{false_from_ne_true}
use Rattle.std.proofs.lemmas.List.{length-take-le, length-drop, get_or-take, get_or-drop}
use Rattle.std.proofs.lemmas.List.Elements.{All-from_get_or}
use Rattle.std.proofs.Math.Decide.{dec_lt}
use Rattle.std.proofs.lemmas.Bool.{ltb-false, not-true, not-false}
use Rattle.std.proofs.lemmas.List.Quantifiers.{position-Some}
use Rattle.std.proofs.lemmas.List.Sums.{fails_before_first, count_by_more_yes, count_by_more_no}
use borrow.Rule.Slice.PartMut.{put_mid}
use Rattle.std.proofs.lemmas.Slice.{put_mid-paste}
use Rattle.notation.specs.Choice.{pick}
use Rattle.notation.specs.Fill.{fill_from}
use Rattle.notation.specs.Scan.{all_in, first_fail}
use Rattle.notation.specs.ScanDown.{last_fail, count_fails}
use Rattle.notation.proofs.Facts.Tests.{clash}
use Rattle.notation.proofs.Facts.Scan.{all_says, all_holds, clean_none, Scanned, scanned}
use Rattle.notation.proofs.Facts.Scan as up
use Rattle.notation.proofs.Facts.ScanDown.{ScannedDown, scanned_down}
use Rattle.notation.proofs.Facts.ScanDown as down

-- ---- a copy of a list into places

-- the copy that has come to place k, and the rest of it
fill_rest : (f : ℕ → ℕ) (d s : List ℕ) (at n k : ℕ) → ((j : ℕ) → j < length s → f (at + j) ≡ get_or s j 0) → at + (k + n) ≤ length d → k + n ≤ length s
    → fill_from f n (at + k) (paste d at s k) ≡ paste d at s (k + n)
unfolding fill_from
fill_rest f d s at zero k same h g = rw add-zero
fill_rest f d s at (suc n) k same h g =
    let e : at + k + 1 ≡ at + (k + 1) = omega arith in
    let l : k + 1 + n ≡ k + suc n = omega arith in
    ap (λ (v : ℕ). fill_from f n (at + k + 1) (set (paste d at s k) (at + k) v)) (same k (omega arith))
    ∙ ap (fill_from f n (at + k + 1)) (paste_more d at s k 0 (omega arith) (omega arith))
    ∙ ap (λ (i : ℕ). fill_from f n i (paste d at s (k + 1))) e
    ∙ fill_rest f d s at n (k + 1) same (omega arith) (omega arith)
    ∙ ap (paste d at s) l

pub paste-fill : (f : ℕ → ℕ) (d s : List ℕ) (at n : ℕ) → ((j : ℕ) → j < length s → f (at + j) ≡ get_or s j 0) → at + n ≤ length d → n ≤ length s
    → paste d at s n ≡ fill_from f n at d
paste-fill f d s at n same h g =
    let e : at + 0 ≡ at = omega arith in
    let l : 0 + n ≡ n = omega arith in
    let r : fill_from f n (at + 0) (paste d at s 0) ≡ paste d at s (0 + n) = fill_rest f d s at n 0 same (omega arith) (omega arith) in
    sym (ap (fill_from f n at) (paste_none d at s) ∙ sym (ap (λ (i : ℕ). fill_from f n i (paste d at s 0)) e) ∙ r ∙ ap (paste d at s) l)

-- after a write of the list zs to the part of d that has n places from `at` on
pub put_mid-fill : (f : ℕ → ℕ) (at n : ℕ) (d ys zs : List ℕ) → ys ≡ zs → n ≡ length zs → ((j : ℕ) → j < length zs → f (at + j) ≡ get_or zs j 0)
    → at + n ≤ length d → put_mid at n d ys ≡ fill_from f n at d
put_mid-fill f at n d ys zs e l same h = put_mid-paste at n d ys zs n e refl l ∙ paste-fill f d zs at n same h (omega arith)

-- ---- a test of all elements of a part, and a count of those that fail

part_at : (c : List ℕ) (i n j : ℕ) → j < n → get_or (take n (drop i c)) j 0 ≡ get_or c (i + j) 0
part_at c i n j h = get_or-take n (drop i c) j 0 h ∙ get_or-drop i c j 0

part_length : (c : List ℕ) (i n : ℕ) → i + n ≤ length c → length (take n (drop i c)) ≡ n
part_length c i n h = length-take-le n (drop i c) (omega (arith, length-drop i c))

module _ (P : ℕ → Type 0) (q : ℕ → Bool) (passes : (x : ℕ) → P x → q x ≡ true) (says : (x : ℕ) → q x ≡ true → P x) (c : List ℕ) (i n : ℕ) (h : i + n ≤ length c) where
  part_all : all_in (λ j. q (get_or c j 0)) n i ≡ true → All P (take n (drop i c))
  part_all t = All-from_get_or P (take n (drop i c)) 0 (λ j l.
      let k : j < n = omega (arith, part_length c i n h) in
      rw (part_at c i n j k) (says (get_or c (i + j) 0) (all_says (λ j. q (get_or c j 0)) n i t (i + j) (omega arith) (omega arith))))

  all_part : All P (take n (drop i c)) → all_in (λ j. q (get_or c j 0)) n i ≡ true
  all_part g = all_holds (λ j. q (get_or c j 0)) n i (λ j a b.
      let e : i + (j - i) ≡ j = omega arith in
      let k : j - i < length (take n (drop i c)) = omega (arith, part_length c i n h) in
      passes (get_or c j 0) (rw (part_at c i n (j - i) (omega arith), e) at (g (j - i) 0 k)))

  pub all-part : (r : Bool) → IsTrue r ↔ All P (take n (drop i c)) → r ≡ all_in (λ j. q (get_or c j 0)) n i
  all-part true k = sym (all_part (k.0 refl))
  all-part false k = sym (false_from_ne_true _ (λ t. absurd (clash (k.1 (part_all t)) refl)))

-- the same of the places, each with a fact of its own
module _ (Q : ℕ → Type 0) (p : ℕ → Bool) (n : ℕ) (passes : (i : ℕ) → i < n → Q i → p i ≡ true) (says : (i : ℕ) → i < n → p i ≡ true → Q i) where
  places_hold : all_in p n 0 ≡ true → (i : ℕ) → i < n → Q i
  places_hold t i h = says i h (all_says p n 0 t i (omega arith) (omega arith))

  pub all-places : (r : Bool) → IsTrue r ↔ ((i : ℕ) → i < n → Q i) → r ≡ all_in p n 0
  all-places true k = sym (all_holds p n 0 (λ i a b. let h : i < n = omega arith in passes i h (k.0 refl i h)))
  all-places false k = sym (false_from_ne_true _ (λ t. absurd (clash (k.1 (places_hold t)) refl)))

pub count_by-scan : (q p : ℕ → Bool) (s : List ℕ) (n : ℕ) → ((j : ℕ) → j < length s → q (get_or s j 0) ≡ not (p j)) → n ≤ length s → count_by q (take n s) ≡ count_fails p n
unfolding count_fails pick
count_by-scan q p s zero same h = refl
count_by-scan q p s (suc n) same h = by (p n) refl (count_by-scan q p s n same (omega arith))
  where
    by : (b : Bool) → p n ≡ b → count_by q (take n s) ≡ count_fails p n → count_by q (take (suc n) s) ≡ count_fails p n + pick (p n) 0 1
    by true e before =
        let z : q (get_or s n 0) ≡ false = same n (omega arith) ∙ ap not e in
        rw (e, ← before, add-zero) (rw add-one at (count_by_more_no q s n 0 (omega arith) z))
    by false e before =
        let z : q (get_or s n 0) ≡ true = same n (omega arith) ∙ ap not e in
        rw (e, ← before) (rw add-one at (count_by_more_yes q s n 0 (omega arith) z))

-- ---- the first element of a part that fails a test, and the last

lowest_same : (p : ℕ → Bool) (i j k : ℕ) → i ≤ j → i ≤ k → p j ≡ false → p k ≡ false
    → ((m : ℕ) → i ≤ m → m < j → p m ≡ true) → ((m : ℕ) → i ≤ m → m < k → p m ≡ true) → j ≡ k
lowest_same p i j k a b y z r s = by (dec_lt j k) (dec_lt k j)
  where
    by : Dec (j < k) → Dec (k < j) → j ≡ k
    by (yes g) d = absurd (clash (s j a g) y)
    by (no f) (yes g) = absurd (clash (r k b g) z)
    by (no f) (no g) = omega arith

highest_same : (p : ℕ → Bool) (n j k : ℕ) → j < n → k < n → p j ≡ false → p k ≡ false
    → ((m : ℕ) → j < m → m < n → p m ≡ true) → ((m : ℕ) → k < m → m < n → p m ≡ true) → j ≡ k
highest_same p n j k a b y z r s = by (dec_lt j k) (dec_lt k j)
  where
    by : Dec (j < k) → Dec (k < j) → j ≡ k
    by (yes g) d = absurd (clash (r k g b) z)
    by (no f) (yes g) = absurd (clash (s j g a) y)
    by (no f) (no g) = omega arith

first_at : (p : ℕ → Bool) (n i k : ℕ) → i ≤ k → k < i + n → p k ≡ false → ((m : ℕ) → i ≤ m → m < k → p m ≡ true) → Some k ≡ first_fail p n i
first_at p n i k a b z s = by (first_fail p n i) (scanned p n i)
  where
    by : (x : Option ℕ) → Scanned p n i x → Some k ≡ x
    by x (up.clean h) = absurd (clash (h k a b) z)
    by x (up.failed j c d y r) = ap (λ (m : ℕ). Some m) (lowest_same p i k j a c z y s r)

pub last_at : (p : ℕ → Bool) (n k : ℕ) → k < n → p k ≡ false → ((m : ℕ) → k < m → m < n → p m ≡ true) → Some k ≡ last_fail p n
last_at p n k b z s = by (last_fail p n) (scanned_down p n)
  where
    by : (x : Option ℕ) → ScannedDown p n x → Some k ≡ x
    by x (down.clean h) = absurd (clash (h k b) z)
    by x (down.failed j d y r) = ap (λ (m : ℕ). Some m) (highest_same p n k j b d z y s r)

pub last_none : (p : ℕ → Bool) (n : ℕ) → ((j : ℕ) → j < n → p j ≡ true) → None ≡ last_fail p n
last_none p n h = by (last_fail p n) (scanned_down p n)
  where
    by : (x : Option ℕ) → ScannedDown p n x → None ≡ x
    by x (down.clean r) = refl
    by x (down.failed j d y r) = absurd (clash (h j d) y)

position-none : (q : ℕ → Bool) (s : List ℕ) → None ≡ position q s → (j : ℕ) → j < length s → q (get_or s j 0) ≡ false
position-none q s e j h = by (ltb (position_or_len q s) (length s)) refl
  where
    by : (b : Bool) → ltb (position_or_len q s) (length s) ≡ b → q (get_or s j 0) ≡ false
    by true g = let z : None ≡ Some (position_or_len q s) = rw g at e in cc
    by false g = fails_before_first q s j 0 (omega (arith, ltb-false _ _ g))

module _ (t : ℕ → Bool) (c : List ℕ) (i n : ℕ) (h : i + n ≤ length c) where
  passed : (j : ℕ) → not (t (get_or (take n (drop i c)) j 0)) ≡ false → j < n → t (get_or c (i + j) 0) ≡ true
  passed j z b = rw (part_at c i n j b) at (not-false _ z)

  pub first-part-none : None ≡ position (λ x. not (t x)) (take n (drop i c)) → None ≡ first_fail (λ j. t (get_or c j 0)) n i
  first-part-none e = sym (clean_none (λ j. t (get_or c j 0)) n i (λ j a b.
      let k : j - i < length (take n (drop i c)) = omega (arith, part_length c i n h) in
      let m : i + (j - i) ≡ j = omega arith in
      rw m at (passed (j - i) (position-none (λ x. not (t x)) (take n (drop i c)) e (j - i) k) (omega arith))))

  pub first-part-some : (k : ℕ) → Some k ≡ position (λ x. not (t x)) (take n (drop i c)) → Some (i + k) ≡ first_fail (λ j. t (get_or c j 0)) n i
  first-part-some k e =
      let f = position-Some (λ x. not (t x)) (take n (drop i c)) k 0 (sym e) in
      let b : k < n = omega (arith, f.0, part_length c i n h) in
      first_at (λ j. t (get_or c j 0)) n i (i + k) (omega arith) (omega arith) (rw (part_at c i n k b) at (not-true _ f.1))
      (λ m a g.
      let l : i + (m - i) ≡ m = omega arith in
      rw l at (passed (m - i) (f.2 (m - i) (omega arith)) (omega arith)))
