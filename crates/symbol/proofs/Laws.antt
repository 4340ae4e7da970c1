-- Signed numbers of 64 bits as the code computes them. Assumes nothing.
use Prim.Native.Nat.{ℕ, zero, suc, ◌+◌, ◌<◌, ◌≤◌, ◌^◌}
use mathlib.Core.Path.{◌≡◌, refl, ap}
use mathlib.Core.Bool.{true, false}
use native.Mathlib.Omega.{arith}
use borrow.Author.Tests.{le-ltb, le-leb}
use lib.Dec.{T}
use lib.IntN.{ℤ, pos, negsuc, ◌-ℤ◌, nat_abs}
use lib.Signed.{non_neg, le_z}
use mir.Syntax.{w64}
use mir.Val.{Fits, SFits}
use Rattle.notation.specs.Position.{up, dn, ◌⊖◌}
use Rattle.notation.proofs.Facts.Position.{ints, diff-⊖}
use Rattle.notation.proofs.Facts.Tests.{clash}

-- what follows from the test of a signed number z against 0, for z and for the number that the code then computes: z itself, or −1 − z
pub record Up (z : ℤ) : Type 0 where
  pub cast : T (non_neg z) × Fits w64 (nat_abs z)
  pub size : nat_abs z ≡ up z
  pub half : up z < 2 ^ 63
  pub none : dn z ≡ 0

pub record Down (z : ℤ) : Type 0 where
  pub fits : SFits w64 (negsuc 0 -ℤ z)
  pub cast : T (non_neg (negsuc 0 -ℤ z)) × Fits w64 (nat_abs (negsuc 0 -ℤ z))
  pub size : suc (nat_abs (negsuc 0 -ℤ z)) ≡ dn z
  pub half : dn z ≤ 2 ^ 63
  pub none : up z ≡ 0

pub is_up : (z : ℤ) → SFits w64 z → le_z (pos 0) z ≡ true → Up z
is_up (pos n) f h = record { cast = (tt, record { fits = omega (arith, f.sfits) }); size = refl; half = omega (arith, f.sfits); none = refl }
is_up (negsuc n) f h = absurd (clash h refl)

mirror : (n : ℕ) → negsuc 0 -ℤ negsuc n ≡ pos n
mirror n = rw (le-ltb (suc n) 1 (omega arith)) (ap pos (omega arith))

pub is_down : (z : ℤ) → SFits w64 z → le_z (pos 0) z ≡ false → Down z
is_down (pos n) f h = absurd (clash (le-leb 0 n (omega arith)) h)
is_down (negsuc n) f h = record {
  fits = rw (mirror n) (record { sfits = f.sfits });
  cast = rw (mirror n) (tt, record { fits = omega (arith, f.sfits) });
  size = rw (mirror n) refl;
  half = omega (arith, f.sfits);
  none = refl;
}

-- −1 − n
pub below_zero : (n : ℕ) → negsuc 0 -ℤ pos n ≡ negsuc n
below_zero zero = refl
below_zero (suc n) = ap negsuc (omega arith)

pub below_is : (n i o : ℕ) → suc (n + i) ≡ o → negsuc n ≡ i ⊖ o
below_is n i o h = omega (ints, diff-⊖ i o)

pub above_is : (n i o : ℕ) → n + o ≡ i → pos n ≡ i ⊖ o
above_is n i o h = omega (ints, diff-⊖ i o)
