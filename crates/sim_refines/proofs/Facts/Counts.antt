-- A count counts the numbers for which the test fails, in rising order. Assumes nothing.
use Rattle.std.specs.Prelude.{◌≡◌, Bool, true, false, ℕ, zero, suc, ◌+◌, ◌≤◌, ◌<◌, ltb}
use Rattle.std.proofs.Common.{sym, ◌∙◌, add-zero, arith, lt-ltb, le-ltb}
use Rattle.std.proofs.Math.Decide.{dec_lt, ℕ_discrete}
use Rattle.notation.specs.Choice.{pick}
use Rattle.notation.specs.ScanDown.{count_fails}
use Rattle.notation.proofs.Facts.Tests.{clash, pick_cases, pick_true, pick_false}
use Rattle.sim_refines.specs.Counts.{Among}

-- the numbers below n for which a test fails, in rising order
pub record Fails (p : ℕ → Bool) (n count : ℕ) : Type 0 where
  pub at : ℕ → ℕ
  pub rising : (i j : ℕ) → i < j → j < count → at i < at j
  pub below : (i : ℕ) → i < count → at i < n
  pub fails : (i : ℕ) → i < count → p (at i) ≡ false
  pub all : (k : ℕ) → k < n → p k ≡ false → Among at count k

module _ (p : ℕ → Bool) (n count : ℕ) (f : Fails p n count) where
  skip : p n ≡ true → Fails p (suc n) count
  skip t = record {
    at = f.at;
    rising = f.rising;
    below = λ i l. omega (arith, f.below i l);
    fails = f.fails;
    all = λ k l e. f.all k (by k l e (ℕ_discrete k n)) e;
  }
    where
      by : (k : ℕ) → k < suc n → p k ≡ false → Dec (k ≡ n) → k < n
      by k l e (yes q) = absurd (clash t (rw q at e))
      by k l e (no q) = omega arith

  -- the numbers of f, then n
  more : ℕ → ℕ
  more i = pick (ltb i count) (f.at i) n

  more_old : (i : ℕ) → i < count → more i ≡ f.at i
  unfolding more
  more_old i l = pick_true _ _ _ (lt-ltb _ _ l)

  more_new : (i : ℕ) → count ≤ i → more i ≡ n
  unfolding more
  more_new i l = pick_false _ _ _ (le-ltb _ _ l)

  take : p n ≡ false → Fails p (suc n) (count + 1)
  take t = record {
    at = more;
    rising = λ i j l b. rise i j l b (dec_lt j count);
    below = λ i b. low i b (dec_lt i count);
    fails = λ i b. fail i b (dec_lt i count);
    all = λ k l e. find k l e (ℕ_discrete k n);
  }
    where
      rise : (i j : ℕ) → i < j → j < count + 1 → Dec (j < count) → more i < more j
      rise i j l b (yes q) = rw (more_old i (omega arith), more_old j q) (f.rising i j l q)
      rise i j l b (no q) = rw (more_old i (omega arith), more_new j (omega arith)) (f.below i (omega arith))

      low : (i : ℕ) → i < count + 1 → Dec (i < count) → more i < suc n
      low i b (yes q) = rw (more_old i q) (omega (arith, f.below i q))
      low i b (no q) = rw (more_new i (omega arith)) (omega arith)

      fail : (i : ℕ) → i < count + 1 → Dec (i < count) → p (more i) ≡ false
      fail i b (yes q) = rw (more_old i q) (f.fails i q)
      fail i b (no q) = rw (more_new i (omega arith)) t

      find : (k : ℕ) → k < suc n → p k ≡ false → Dec (k ≡ n) → Among more (count + 1) k
      find k l e (yes q) = record { number = count; below = omega arith; is = more_new count (omega arith) ∙ sym q }
      find k l e (no q) =
          let r : Among f.at count k = f.all k (omega arith) e in
          record { number = r.number; below = omega arith; is = more_old r.number r.below ∙ r.is }

pub fails_of : (p : ℕ → Bool) (n : ℕ) → Fails p n (count_fails p n)
unfolding count_fails
fails_of p zero = record {
  at = λ i. 0;
  rising = λ i j l b. absurd (omega arith);
  below = λ i b. absurd (omega arith);
  fails = λ i b. absurd (omega arith);
  all = λ k l e. absurd (omega arith);
}
fails_of p (suc n) = pick_cases (p n) 0 1 (λ w. Fails p (suc n) (count_fails p n + w)) (λ t. rw add-zero (skip p n _ (fails_of p n) t)) (λ t. take p n _ (fails_of p n) t)
