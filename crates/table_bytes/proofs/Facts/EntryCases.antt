-- Numbers of entries, and the check of their bytes, one fact for each way through the code. Assumes nothing.
use Rattle.std.specs.Prelude.{◌≡◌, refl, true, List, ℕ, ◌+◌, ◌-◌, ◌*◌, ◌^◌, ◌≤◌, ◌<◌, length, take, drop}
use Rattle.std.proofs.Common.{sym, ap, ◌∙◌, mul-le-mul, pow-suc, one-mul, arith, eqb, leb, ltb, not, leb-true, ltb-true, ltb-false, le-leb}
use Rattle.std.proofs.lemmas.Bool.{lt-leb}
use Rattle.std.proofs.Math.Nat.{pow-zero}
use Rattle.std.specs.List.{list_all}
use Rattle.notation.specs.Scan.{all_in}
use Rattle.notation.proofs.Facts.Parts.{list_all-part}
use Rattle.notation.proofs.Facts.Tests.{both_split, by_test}
use Rattle.table_bytes.specs.Model.Entries.{within, zero_at}

-- ---- a number in a range

pub within_says : (low high x : ℕ) → within low high x ≡ true → (low ≤ x) × (x ≤ high)
within_says low high x h = (leb-true low x (both_split h).0, leb-true x high (both_split h).1)

pub leb_not : (k x : ℕ) → leb k x ≡ not (ltb x k)
leb_not k x = by_test (ltb x k) (λ t. lt-leb k x (ltb-true x k t) ∙ ap not (sym t)) (λ t. le-leb k x (ltb-false x k t) ∙ ap not (sym t))

-- ---- sizes: nothing wraps

pub square_fits : (k : ℕ) → k ≤ 256 → k * k ≤ 65536
square_fits k h = mul-le-mul h h

pub cube_fits : (k : ℕ) → k ≤ 256 → k * k * k ≤ 16777216
cube_fits k h = mul-le-mul (square_fits k h) h

pub count_fits : (n r : ℕ) → n ≤ 65536 → r ≤ 16777216 → n * r ≤ 1099511627776
count_fits n r h g = mul-le-mul h g

pub count_small : (n r : ℕ) → n ≤ 65536 → r ≤ 16777216 → n * r < 2 ^ 64
count_small n r h g = omega (arith, count_fits n r h g)

power_one : (k : ℕ) → k ^ 1 ≡ k
power_one k = rw (pow-suc k 0, pow-zero) (one-mul k)

power_two : (k : ℕ) → k ^ 2 ≡ k * k
power_two k = rw (pow-suc k 1, power_one) refl

power_three : (k : ℕ) → k ^ 3 ≡ k * k * k
power_three k = rw (pow-suc k 2, power_two) refl

module _ (t k : ℕ) where
  pub stride_one : t ≡ 1 → k ≡ k ^ t
  stride_one e = sym (power_one k) ∙ ap (λ (n : ℕ). k ^ n) (sym e)

  pub stride_two : t ≡ 2 → k * k ≡ k ^ t
  stride_two e = sym (power_two k) ∙ ap (λ (n : ℕ). k ^ n) (sym e)

  pub stride_three : 1 ≤ t → t ≤ 3 → (t ≡ 1 → ⊥) → (t ≡ 2 → ⊥) → k * k * k ≡ k ^ t
  stride_three a b c d =
      let e : t ≡ 3 = omega arith in
      sym (power_three k) ∙ ap (λ (n : ℕ). k ^ n) (sym e)

-- ---- an undefined entry

pub all_zero : (s : List ℕ) (i : ℕ) → 8 * i + 8 ≤ length s → list_all (λ b. eqb b 0) (take (8 * i + 8 - 8 * i) (drop (8 * i) s)) ≡ all_in (zero_at s i) 8 0
all_zero s i h =
    let e : 8 * i + 8 - 8 * i ≡ 8 = omega arith in
    rw e (list_all-part (λ b. eqb b 0) (zero_at s i) s (8 * i) 8 h (λ j g. refl))
