-- The index of a position: one fact for each answer, and that the answer is right. Assumes nothing.
use Rattle.std.specs.Prelude.{◌≡◌, ℕ, ◌+◌, ◌-◌, ◌≤◌, ◌<◌, ◌^◌, leb, ℤ, None, Some}
use Rattle.std.proofs.Common.{sym, ◌∙◌}
use Rattle.std.proofs.Math.Path.{ap}
use native.Mathlib.Omega.{arith}
use borrow.Author.Tests.{le-leb, lt-leb, lt-ltb, le-ltb, leb-true, leb-false}
use Rattle.notation.specs.Choice.{pick, both}
use Rattle.notation.specs.Position.{◌⊖◌, up, dn}
use Rattle.notation.proofs.Facts.Position.{ints, diff-⊖}
use Rattle.notation.proofs.Facts.Tests.{by_test}
use Rattle.symbol.specs.Model.{raised_of, index_at, index_of}

module _ (u d o len : ℕ) where
  pub index_in : (i : ℕ) → i + d ≡ o + u → i < len → Some i ≡ index_at u d o len
  unfolding index_at pick both
  index_in i e h =
      let k : i ≡ o + u - d = omega arith in
      let a : d ≤ o + u = omega arith in
      let b : o + u - d < len = omega arith in
      ap Some k ∙ simp (le-leb _ _ a, lt-ltb _ _ b)

  pub index_before : o + u < d → None ≡ index_at u d o len
  unfolding index_at pick both
  index_before h = simp (lt-leb _ _ h)

  pub index_past : len + d ≤ o + u → None ≡ index_at u d o len
  unfolding index_at pick both
  index_past h =
      let a : d ≤ o + u = omega arith in
      let b : len ≤ o + u - d = omega arith in
      simp (le-leb _ _ a, le-ltb _ _ b)

-- the index depends only on the difference of u and d
pub index_alike : (u d v e o len : ℕ) → u + e ≡ v + d → index_at u d o len ≡ index_at v e o len
unfolding index_at
index_alike u d v e o len h =
    let k : o + u - d ≡ o + v - e = omega arith in
    let t : leb d (o + u) ≡ leb e (o + v) = by_test (leb e (o + v)) (λ t. le-leb d (o + u) (omega (arith, leb-true e (o + v) t)) ∙ sym t) (λ t. lt-leb d (o + u) (omega (arith, leb-false e (o + v) t)) ∙ sym t) in
    rw (k, t)

-- the index of the position of index i is i
pub index_of_position : (i o len : ℕ) → i < len → index_of (i ⊖ o) o len ≡ Some i
index_of_position i o len h = sym (index_in (up (i ⊖ o)) (dn (i ⊖ o)) o len i (omega (arith, diff-⊖ i o)) h)

-- a position raised by 2^63 and lowered by 2^63 is the same position
pub raised_signed : (z : ℤ) → dn z ≤ 2 ^ 63 → raised_of z ⊖ 2 ^ 63 ≡ z
raised_signed z h = omega (ints, diff-⊖ (raised_of z) (2 ^ 63))

pub signed_raised : (b : ℕ) → raised_of (b ⊖ 2 ^ 63) ≡ b
signed_raised b = omega (arith, diff-⊖ b (2 ^ 63))
