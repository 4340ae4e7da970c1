-- Tests of the elements of a list, or of the numbers of a range, as scans. Assumes nothing.
use Rattle.std.specs.Prelude.{◌≡◌, refl, Bool, true, false, cond, not, ltb, ◌&&◌, Option, Some, None, List, [], ◌∷◌, ℕ, zero, suc, ◌+◌, ◌≤◌, ◌<◌, length, get_or, take, drop}
use Rattle.std.proofs.Common.{sym, ap, ◌∙◌, arith, add-zero, zero-add, lt-ltb, le-ltb, ltb-true, ltb-false}
use Rattle.std.proofs.lemmas.List.{get_or-take, get_or-drop}
use Rattle.std.proofs.lemmas.Grind.{common_steps}
use Rattle.std.specs.List.{list_all, range_with_len, find, position, position_or_len}
use Rattle.notation.proofs.Facts.Tests.{by_test}
use Rattle.notation.specs.Choice.{pick, both}
use Rattle.notation.specs.Scan.{all_in, first_fail}

-- a test of all elements is a scan over their places
list_all-scan : (q p : ℕ → Bool) (s : List ℕ) (i : ℕ) → ((j : ℕ) → j < length s → p (i + j) ≡ q (get_or s j 0)) → list_all q s ≡ all_in p (length s) i
unfolding all_in both
list_all-scan q p [] i same = refl
list_all-scan q p (x ∷ xs) i same = by (p i) (q x) (list_all q xs) (all_in p (length xs) (i + 1)) (rw add-zero at (same 0 (omega arith))) (list_all-scan q p xs (i + 1) later)
  where
    later : (j : ℕ) → j < length xs → p (i + 1 + j) ≡ q (get_or xs j 0)
    later j h =
        let e : i + 1 + j ≡ i + suc j = omega arith in
        ap p e ∙ same (suc j) (omega arith)

    by : (a b x y : Bool) → a ≡ b → x ≡ y → (b && x) ≡ both a y
    by true b x y e r = rw (← e) r
    by false b x y e r = rw (← e) refl

-- the same of the n elements from place `at` on
pub list_all-part : (q p : ℕ → Bool) (s : List ℕ) (at n : ℕ) → at + n ≤ length s → ((j : ℕ) → j < n → p j ≡ q (get_or s (at + j) 0)) → list_all q (take n (drop at s)) ≡ all_in p n 0
list_all-part q p s at n h same = rw size at (list_all-scan q p (take n (drop at s)) 0 each)
  where
    size : length (take n (drop at s)) ≡ n
    size = grind (arith, common_steps)

    each : (j : ℕ) → j < length (take n (drop at s)) → p (0 + j) ≡ q (get_or (take n (drop at s)) j 0)
    each j g =
        let k : j < n = rw size at g in
        rw (zero-add, get_or-take, get_or-drop) (same j k)

-- a test of the n numbers from i on is a scan over them
pub list_all-range : (p : ℕ → Bool) (n i : ℕ) → list_all p (range_with_len i n) ≡ all_in p n i
unfolding all_in both
list_all-range p zero i = refl
list_all-range p (suc n) i = by (p i) (list_all p (range_with_len (i + 1) n)) (all_in p n (i + 1)) (list_all-range p n (i + 1))
  where
    by : (a x y : Bool) → x ≡ y → (a && x) ≡ both a y
    by true x y e = e
    by false x y e = refl

-- the first of the n numbers from i on that fails a test
pub find-range : (p : ℕ → Bool) (n i : ℕ) → find (λ k. not (p k)) (range_with_len i n) ≡ first_fail p n i
unfolding first_fail pick
find-range p zero i = refl
find-range p (suc n) i = by (p i) (find-range p n (i + 1))
  where
    by : {r s : Option ℕ} (a : Bool) → r ≡ s → cond (not a) (Some i) r ≡ pick a s (Some i)
    by true e = e
    by false e = refl

ltb-both : (m l : ℕ) → ltb (1 + m) (suc l) ≡ ltb m l
ltb-both m l = by_test (ltb m l)
    (λ t. lt-ltb (1 + m) (suc l) (omega (arith, ltb-true m l t)) ∙ sym t)
    (λ t. le-ltb (1 + m) (suc l) (omega (arith, ltb-false m l t)) ∙ sym t)

-- the place of the first element that fails a test
position-from : (q p : ℕ → Bool) (s : List ℕ) (i : ℕ) → ((j : ℕ) → j < length s → q (get_or s j 0) ≡ not (p (i + j)))
    → cond (ltb (position_or_len q s) (length s)) (Some (i + position_or_len q s)) None ≡ first_fail p (length s) i
unfolding first_fail pick
position-from q p [] i same = refl
position-from q p (x ∷ xs) i same = by (p i) (q x) (position_or_len q xs) (rw add-zero at (same 0 (omega arith))) (position-from q p xs (i + 1) later)
  where
    later : (j : ℕ) → j < length xs → q (get_or xs j 0) ≡ not (p (i + 1 + j))
    later j h =
        let e : i + suc j ≡ i + 1 + j = omega arith in
        same (suc j) (omega arith) ∙ ap (λ k. not (p k)) e

    by : {s : Option ℕ} (a b : Bool) (m : ℕ) → b ≡ not a → cond (ltb m (length xs)) (Some (i + 1 + m)) None ≡ s
        → cond (ltb (cond (not b) (1 + m) 0) (suc (length xs))) (Some (i + cond (not b) (1 + m) 0)) None ≡ pick a s (Some i)
    by true b m e r =
        let k : i + (1 + m) ≡ i + 1 + m = omega arith in
        rw (e, ltb-both m (length xs), k) r
    by false b m e r = rw (e, lt-ltb 0 (suc (length xs)) (omega arith), add-zero) refl

pub position-scan : (q p : ℕ → Bool) (s : List ℕ) → ((j : ℕ) → j < length s → q (get_or s j 0) ≡ not (p j)) → position q s ≡ first_fail p (length s) 0
position-scan q p s same = rw zero-add at (position-from q p s 0 (λ j h. rw zero-add (same j h)))
