-- Rules for `search` on a chain of reads, each with its own early return. Assumes nothing.
use Rattle.std.specs.Prelude.{ℕ, ◌≡◌, refl, Bool, true, false, eqb, None, Option, Some}
use Rattle.std.proofs.Common.{arith}
use borrow.Author.Tests.{eq-eqb, ne_eqb}
use Rattle.notation.specs.Choice.{pick}
use Rattle.notation.proofs.Facts.Tests.{tests, via}
use Rattle.listing_text.specs.Numbers.{on_num}

module _ {A : Type 0} (x out : A) where
  pub num_out : (r n : Option ℕ) (go : ℕ → A) → r ≡ n → r ≡ None → x ≡ out → x ≡ on_num n out go
  unfolding on_num
  num_out r n go e q p = simp (← e, q) p

  pub num_go : (r n : Option ℕ) (go : ℕ → A) (v : ℕ) → r ≡ n → r ≡ Some v → x ≡ go v → x ≡ on_num n out go
  unfolding on_num
  num_go r n go v e q p = simp (← e, q) p

  -- a callee's number, compared
  pub count_ne : (b : A) (r n k : ℕ) → r ≡ n → (r ≡ k → ⊥) → x ≡ out → x ≡ pick (eqb n k) b out
  unfolding pick
  count_ne b r n k e q p = simp (← e, ne_eqb _ _ q) p

  pub count_eq : (b : A) (r n k : ℕ) → r ≡ n → r ≡ k → x ≡ b → x ≡ pick (eqb n k) b out
  unfolding pick
  count_eq b r n k e q p = simp (← e, eq-eqb _ _ q) p

pub ruleset chain = (num_out, num_go, count_ne, count_eq, tests, via)

-- ---- the converse: from the result of a chain to its parts

pub no_value : {v : ℕ} → ◌≡◌ {A = Option ℕ} None (Some v) → ⊥
no_value p = let z : ◌≡◌ {A = ℕ} 0 1 = cc in omega arith

-- a choice whose other side is not x
pub pick_inv : {A : Type 0} {o x : A} (t : Bool) (a : A) → (o ≡ x → ⊥) → pick t a o ≡ x → (t ≡ true) × (a ≡ x)
unfolding pick
pick_inv true a h p = (refl, p)
pick_inv false a h p = absurd (h p)

pub num_inv : {A : Type 0} {o x : A} (n : Option ℕ) (go : ℕ → A) → (o ≡ x → ⊥) → on_num n o go ≡ x → (v : ℕ) × (n ≡ Some v) × (go v ≡ x)
unfolding on_num
num_inv (Some v) go h p = (v, refl, p)
num_inv None go h p = absurd (h p)
