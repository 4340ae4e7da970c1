-- Scans: one turn of a loop for each scan, where x is the loop's result, and what follows from the scan's answer. Assumes nothing.
use Rattle.std.specs.Prelude.{◌≡◌, refl, Bool, true, false, ℕ, zero, suc, ◌+◌, ◌-◌, ◌≤◌, ◌<◌, None, Option, Some}
use Rattle.std.proofs.Common.{sym, ap, ◌∙◌, arith}
use Rattle.std.proofs.Math.Decide.{ℕ_discrete}
use Rattle.notation.specs.Choice.{pick, both}
use Rattle.notation.specs.Scan.{all_in, first_fail}
use Rattle.notation.proofs.Facts.Tests.{both_split, both_true, clash, by_test, pick_true, pick_false}

-- ---- one turn

all_step : (p : ℕ → Bool) (to i : ℕ) → i < to → all_in p (to - i) i ≡ both (p i) (all_in p (to - (i + 1)) (i + 1))
unfolding all_in
all_step p to i h =
    let e : to - i ≡ suc (to - (i + 1)) = omega arith in
    ap (λ (n : ℕ). all_in p n i) e

pub all_hit : (p : ℕ → Bool) (to i : ℕ) (x : Bool) → all_in p (to - i) i ≡ x → i < to → p i ≡ false → false ≡ x
unfolding both
all_hit p to i x e h z = simp (all_step p to i h, z) at e

pub all_next : (p : ℕ → Bool) (to i : ℕ) (x : Bool) → all_in p (to - i) i ≡ x → i < to → p i ≡ true → all_in p (to - (i + 1)) (i + 1) ≡ x
unfolding both
all_next p to i x e h z = simp (all_step p to i h, z) at e

pub all_end : (p : ℕ → Bool) (to i : ℕ) (x : Bool) → all_in p (to - i) i ≡ x → to ≤ i → true ≡ x
unfolding all_in
all_end p to i x e h =
    let z : to - i ≡ 0 = omega arith in
    simp z at e

first_step : (p : ℕ → Bool) (to i : ℕ) → i < to → first_fail p (to - i) i ≡ pick (p i) (first_fail p (to - (i + 1)) (i + 1)) (Some i)
unfolding first_fail
first_step p to i h =
    let e : to - i ≡ suc (to - (i + 1)) = omega arith in
    ap (λ (n : ℕ). first_fail p n i) e

pub first_hit : (p : ℕ → Bool) (to i : ℕ) (x : Option ℕ) → first_fail p (to - i) i ≡ x → i < to → p i ≡ false → x ≡ Some i
unfolding pick
first_hit p to i x e h z = sym e ∙ first_step p to i h ∙ rw z

pub first_next : (p : ℕ → Bool) (to i : ℕ) (x : Option ℕ) → first_fail p (to - i) i ≡ x → i < to → p i ≡ true → first_fail p (to - (i + 1)) (i + 1) ≡ x
unfolding pick
first_next p to i x e h z = simp (first_step p to i h, z) at e

pub first-end : (p : ℕ → Bool) (to i : ℕ) (x : Option ℕ) → first_fail p (to - i) i ≡ x → to ≤ i → x ≡ None
unfolding first_fail
first-end p to i x e h =
    let z : to - i ≡ 0 = omega arith in
    sym e ∙ ap (λ (n : ℕ). first_fail p n i) z

-- ---- what the answer says

-- the test holds for each of the n numbers from i on
abbrev pub Holds : (ℕ → Bool) → ℕ → ℕ → Type 0
Holds p n i = (j : ℕ) → i ≤ j → j < i + n → p j ≡ true

holds_more : (p : ℕ → Bool) (n i : ℕ) → p i ≡ true → Holds p n (i + 1) → Holds p (suc n) i
holds_more p n i h r j a b = by (ℕ_discrete i j)
  where
    by : Dec (i ≡ j) → p j ≡ true
    by (yes e) = rw e at h
    by (no f) = r j (omega arith) (omega arith)

pub all_says : (p : ℕ → Bool) (n i : ℕ) → all_in p n i ≡ true → Holds p n i
unfolding all_in
all_says p zero i h = λ j a b. absurd (omega arith)
all_says p (suc n) i h = holds_more p n i (both_split h).0 (all_says p n (i + 1) (both_split h).1)

pub all_holds : (p : ℕ → Bool) (n i : ℕ) → Holds p n i → all_in p n i ≡ true
unfolding all_in
all_holds p zero i h = refl
all_holds p (suc n) i h = both_true (h i (omega arith) (omega arith)) (all_holds p n (i + 1) (λ j a b. h j (omega arith) (omega arith)))

-- the scan's answer by cases: the test holds for all, or j is the lowest number for which it fails
pub data Scanned (p : ℕ → Bool) (n i : ℕ) : Option ℕ → Type 0 where
  clean : Holds p n i → Scanned p n i None
  failed : (j : ℕ) → i ≤ j → j < i + n → p j ≡ false → ((k : ℕ) → i ≤ k → k < j → p k ≡ true) → Scanned p n i (Some j)

pub scanned : (p : ℕ → Bool) (n i : ℕ) → Scanned p n i (first_fail p n i)
unfolding first_fail
scanned p zero i = clean (λ j a b. absurd (omega arith))
scanned p (suc n) i = by_test (p i) (λ h. rw (pick_true (p i) (first_fail p n (i + 1)) (Some i) h) (more h (scanned p n (i + 1))))
    (λ h. rw (pick_false (p i) (first_fail p n (i + 1)) (Some i) h) (failed i (omega arith) (omega arith) h (λ k a b. absurd (omega arith))))
  where
    more : {x : Option ℕ} → p i ≡ true → Scanned p n (i + 1) x → Scanned p (suc n) i x
    more h (clean r) = clean (holds_more p n i h r)
    more h (failed j a b z r) = failed j (omega arith) (omega arith) z (λ k c d. holds_more p (j - (i + 1)) i h (λ l e f. r l e (omega arith)) k c (omega arith))

pub clean_none : (p : ℕ → Bool) (n i : ℕ) → Holds p n i → first_fail p n i ≡ None
clean_none p n i h = by (first_fail p n i) (scanned p n i)
  where
    by : (x : Option ℕ) → Scanned p n i x → x ≡ None
    by x (clean r) = refl
    by x (failed j a b z r) = absurd (clash (h j a b) z)
