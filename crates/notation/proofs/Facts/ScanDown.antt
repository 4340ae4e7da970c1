-- Scans downward and counts: the end of a count's loop, and what follows from the answer. Assumes nothing.
use Rattle.std.specs.Prelude.{◌≡◌, Bool, true, false, ℕ, zero, suc, ◌+◌, ◌≤◌, ◌<◌, None, Option, Some}
use Rattle.std.proofs.Common.{ap, ◌∙◌, arith}
use Rattle.std.proofs.Math.Decide.{ℕ_discrete}
use Rattle.notation.specs.ScanDown.{last_fail, count_fails}
use Rattle.notation.proofs.Facts.Tests.{by_test, pick_true, pick_false, pick_cases}

-- ---- the end of a count's loop

pub count_end : (p : ℕ → Bool) (i n count : ℕ) → count ≡ count_fails p i → n ≤ i → i ≤ n → count ≡ count_fails p n
count_end p i n count e a b =
    let z : i ≡ n = omega arith in
    e ∙ ap (count_fails p) z

-- ---- what the answer says

pub count_most : (p : ℕ → Bool) (n : ℕ) → count_fails p n ≤ n
unfolding count_fails
count_most p zero = omega arith
count_most p (suc n) = pick_cases (p n) 0 1 (λ w. count_fails p n + w ≤ suc n) (λ t. omega (arith, count_most p n)) (λ t. omega (arith, count_most p n))

-- the scan's answer by cases: the test holds for all numbers below n, or j is the highest for which it fails
pub data ScannedDown (p : ℕ → Bool) (n : ℕ) : Option ℕ → Type 0 where
  clean : ((j : ℕ) → j < n → p j ≡ true) → ScannedDown p n None
  failed : (j : ℕ) → j < n → p j ≡ false → ((k : ℕ) → j < k → k < n → p k ≡ true) → ScannedDown p n (Some j)

pub scanned_down : (p : ℕ → Bool) (n : ℕ) → ScannedDown p n (last_fail p n)
unfolding last_fail
scanned_down p zero = clean (λ j b. absurd (omega arith))
scanned_down p (suc n) = by_test (p n) (λ h. rw (pick_true (p n) (last_fail p n) (Some n) h) (more h (scanned_down p n)))
    (λ h. rw (pick_false (p n) (last_fail p n) (Some n) h) (failed n (omega arith) h (λ k a b. absurd (omega arith))))
  where
    at : p n ≡ true → (k : ℕ) → (k < n → p k ≡ true) → k < suc n → Dec (n ≡ k) → p k ≡ true
    at h k r b (yes e) = rw e at h
    at h k r b (no f) = r (omega arith)

    more : {x : Option ℕ} → p n ≡ true → ScannedDown p n x → ScannedDown p (suc n) x
    more h (clean r) = clean (λ k b. at h k (r k) b (ℕ_discrete n k))
    more h (failed j a z r) = failed j (omega arith) z (λ k c d. at h k (r k c) d (ℕ_discrete n k))
