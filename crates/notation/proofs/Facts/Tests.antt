-- What follows from tests, and lemmas for each test of a chain. Assumes nothing.
use Rattle.std.specs.Prelude.{◌≡◌, refl, Bool, true, false, ℕ}
use Rattle.std.proofs.Common.{arith, lt-ltb, le-ltb, le-leb, eq-eqb, ne_eqb}
use Rattle.std.proofs.lemmas.Bool.{not-true, not-false, lt-leb}
use Rattle.notation.specs.Choice.{pick, both}

-- ---- a chain of tests, each with its own return

pub both_no : (a b : Bool) → a ≡ false → false ≡ both a b
unfolding both
both_no a b p = simp p

pub both_go : (a b x : Bool) → a ≡ true → x ≡ b → x ≡ both a b
unfolding both
both_go a b x p q = simp (p, q)

pub pick_yes : {A : Type 0} (a : Bool) (x b c : A) → a ≡ true → x ≡ b → x ≡ pick a b c
unfolding pick
pick_yes a x b c p q = simp (p, q)

pub pick_no : {A : Type 0} (a : Bool) (x b c : A) → a ≡ false → x ≡ c → x ≡ pick a b c
unfolding pick
pick_no a x b c p q = simp (p, q)

pub itself : {A : Type 0} {x : A} → x ≡ x
itself = refl

pub ruleset tests = (both_no, both_go, pick_yes, pick_no, lt-ltb, le-ltb, le-leb, lt-leb, eq-eqb, ne_eqb, itself)

-- the same where the test is a Bool r that a callee returned

pub both_no_via : (r a b : Bool) → r ≡ a → r ≡ false → false ≡ both a b
unfolding both
both_no_via r a b p q = simp (← p, q)

pub both_go_via : (r a b x : Bool) → r ≡ a → r ≡ true → x ≡ b → x ≡ both a b
unfolding both
both_go_via r a b x p q e = simp (← p, q, e)

pub pick_yes_via : {A : Type 0} (r a : Bool) (x b c : A) → r ≡ a → r ≡ true → x ≡ b → x ≡ pick a b c
unfolding pick
pick_yes_via r a x b c p q e = simp (← p, q, e)

pub pick_no_via : {A : Type 0} (r a : Bool) (x b c : A) → r ≡ a → r ≡ false → x ≡ c → x ≡ pick a b c
unfolding pick
pick_no_via r a x b c p q e = simp (← p, q, e)

pub ruleset via = (both_no_via, both_go_via, pick_yes_via, pick_no_via, not-true, not-false)

-- ---- from a chain of tests to what follows from it

pub both_split : {a b : Bool} → both a b ≡ true → (a ≡ true) × (b ≡ true)
unfolding both
both_split {a = true} h = (refl, h)
both_split {a = false} h = let z : ◌≡◌ {A = ℕ} 0 1 = cc in absurd (omega arith)

pub both_true : {a b : Bool} → a ≡ true → b ≡ true → both a b ≡ true
unfolding both
both_true p q = rw (p, q)

pub clash : {b : Bool} → b ≡ true → b ≡ false → ⊥
clash p q = let z : ◌≡◌ {A = ℕ} 0 1 = cc in omega arith

-- a test is passed or failed
pub by_test {ℓ} : {P : Type ℓ} (b : Bool) → (b ≡ true → P) → (b ≡ false → P) → P
by_test true f g = f refl
by_test false f g = g refl

-- a property of both values, each under its result of the test, is a property of the choice
pub pick_cases : {A : Type 0} (b : Bool) (x y : A) (P : A → Type 0) → (b ≡ true → P x) → (b ≡ false → P y) → P (pick b x y)
unfolding pick
pick_cases true x y P f g = f refl
pick_cases false x y P f g = g refl

pub pick_true : {A : Type 0} (b : Bool) (x y : A) → b ≡ true → pick b x y ≡ x
unfolding pick
pick_true b x y e = rw e

pub pick_false : {A : Type 0} (b : Bool) (x y : A) → b ≡ false → pick b x y ≡ y
unfolding pick
pick_false b x y e = rw e
