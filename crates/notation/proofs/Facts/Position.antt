-- `omega` does not read integers, so each integer z is read as the difference of two naturals, up z and dn z.
-- Every fact about positions is then a fact about naturals: `diff` and similar lemmas turn an equation or a move into one, `same` turns one back. Assumes nothing.
use Rattle.std.specs.Prelude.{◌≡◌, refl, Bool, true, false, ℕ, zero, suc, ◌+◌, ◌≤◌, ◌<◌, T, ltb, ℤ, pos, negsuc, ◌≤ℤ◌, ◌<ℤ◌}
use Rattle.std.proofs.Common.{sym, ap, subst, arith, leb-true, leb-false, ltb-true, ltb-false, le-leb, lt-ltb, eqb-true, eq-eqb}
use Rattle.std.proofs.Math.IntN.{suc_ℤ, pred_ℤ, sub_ℕ}
use Rattle.std.specs.Int.Signed.{lt_z, le_z, le_z_yes, lt_z_yes}
use Rattle.notation.specs.Position.{eq_z, ◌⊖◌, up, dn}
use Rattle.notation.proofs.Facts.Tests.{clash, by_test}

-- ---- an equation of positions is an equation of naturals, and back

pub diff : (x y : ℤ) → x ≡ y → up x + dn y ≡ up y + dn x
diff x y e = subst (λ z. up x + dn z ≡ up z + dn x) e refl

pub same : (x y : ℤ) → up x + dn y ≡ up y + dn x → x ≡ y
same (pos a) (pos b) h = ap pos (omega arith)
same (pos a) (negsuc b) h = absurd (omega arith)
same (negsuc a) (pos b) h = absurd (omega arith)
same (negsuc a) (negsuc b) h = ap negsuc (omega arith)

-- ---- the tests and the order of positions, likewise

pub eq_z_true : (x y : ℤ) → eq_z x y ≡ true → x ≡ y
eq_z_true (pos a) (pos b) t = ap pos (eqb-true a b t)
eq_z_true (pos a) (negsuc b) t = absurd (clash t refl)
eq_z_true (negsuc a) (pos b) t = absurd (clash t refl)
eq_z_true (negsuc a) (negsuc b) t = ap negsuc (eqb-true a b t)

pub eq_z_refl : (x : ℤ) → eq_z x x ≡ true
eq_z_refl (pos a) = eq-eqb a a refl
eq_z_refl (negsuc a) = eq-eqb a a refl

pub le_z_true : (x y : ℤ) → le_z x y ≡ true → up x + dn y ≤ up y + dn x
le_z_true (pos a) (pos b) t = omega (arith, leb-true a b t)
le_z_true (pos a) (negsuc b) t = absurd (clash t refl)
le_z_true (negsuc a) (pos b) t = omega arith
le_z_true (negsuc a) (negsuc b) t = omega (arith, leb-true b a t)

pub le_z_false : (x y : ℤ) → le_z x y ≡ false → up y + dn x < up x + dn y
le_z_false (pos a) (pos b) t = omega (arith, leb-false a b t)
le_z_false (pos a) (negsuc b) t = omega arith
le_z_false (negsuc a) (pos b) t = absurd (clash refl t)
le_z_false (negsuc a) (negsuc b) t = omega (arith, leb-false b a t)

pub le_le_z : (x y : ℤ) → up x + dn y ≤ up y + dn x → le_z x y ≡ true
le_le_z (pos a) (pos b) h = le-leb a b (omega arith)
le_le_z (pos a) (negsuc b) h = absurd (omega arith)
le_le_z (negsuc a) (pos b) h = refl
le_le_z (negsuc a) (negsuc b) h = le-leb b a (omega arith)

pub lt_z_true : (x y : ℤ) → lt_z x y ≡ true → up x + dn y < up y + dn x
lt_z_true (pos a) (pos b) t = omega (arith, ltb-true a b t)
lt_z_true (pos a) (negsuc b) t = absurd (clash t refl)
lt_z_true (negsuc a) (pos b) t = omega arith
lt_z_true (negsuc a) (negsuc b) t = omega (arith, ltb-true b a t)

pub lt_lt_z : (x y : ℤ) → up x + dn y < up y + dn x → lt_z x y ≡ true
lt_lt_z (pos a) (pos b) h = lt-ltb a b (omega arith)
lt_lt_z (pos a) (negsuc b) h = absurd (omega arith)
lt_lt_z (negsuc a) (pos b) h = refl
lt_lt_z (negsuc a) (negsuc b) h = lt-ltb b a (omega arith)

test_true : (b : Bool) → T b → b ≡ true
test_true true t = refl
test_true false t = absurd t

pub ≤ℤ-diff : (x y : ℤ) → x ≤ℤ y → up x + dn y ≤ up y + dn x
≤ℤ-diff x y h = le_z_true x y (test_true (le_z x y) h.le)

pub diff-≤ℤ : (x y : ℤ) → up x + dn y ≤ up y + dn x → x ≤ℤ y
diff-≤ℤ x y h = le_z_yes (subst T (sym (le_le_z x y h)) tt)

pub <ℤ-diff : (x y : ℤ) → x <ℤ y → up x + dn y < up y + dn x
<ℤ-diff x y h = lt_z_true x y (test_true (lt_z x y) h.lt)

pub diff-<ℤ : (x y : ℤ) → up x + dn y < up y + dn x → x <ℤ y
diff-<ℤ x y h = lt_z_yes (subst T (sym (lt_lt_z x y h)) tt)

-- `omega ints` reads and proves these statements about integers. A lemma on a move or an index is added by name, as in `omega (ints, diff_suc h)`
pub ruleset ints = (arith, diff, same, ≤ℤ-diff, diff-≤ℤ, <ℤ-diff, diff-<ℤ, le_z_true, le_z_false, le_le_z, lt_z_true, lt_lt_z)

-- ---- what a move and an index do to the difference

pub diff_suc : (z : ℤ) → up (suc_ℤ z) + dn z ≡ suc (up z + dn (suc_ℤ z))
diff_suc (pos n) = omega arith
diff_suc (negsuc zero) = omega arith
diff_suc (negsuc (suc n)) = omega arith

pub diff_pred : (z : ℤ) → suc (up (pred_ℤ z) + dn z) ≡ up z + dn (pred_ℤ z)
diff_pred (pos zero) = omega arith
diff_pred (pos (suc n)) = omega arith
diff_pred (negsuc n) = omega arith

pub diff-⊖ : (i o : ℕ) → up (i ⊖ o) + o ≡ i + dn (i ⊖ o)
unfolding ◌⊖◌
diff-⊖ i o = by_test (ltb i o) (λ t. below (ltb-true i o t) t) (λ t. above (ltb-false i o t) t)
  where
    below : i < o → ltb i o ≡ true → up (sub_ℕ i o) + o ≡ i + dn (sub_ℕ i o)
    below h t = rw t (omega arith)

    above : o ≤ i → ltb i o ≡ false → up (sub_ℕ i o) + o ≡ i + dn (sub_ℕ i o)
    above h t = rw t (omega arith)
