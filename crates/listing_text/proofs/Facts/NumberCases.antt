-- Facts on `digits` for the code that reads a number, one for each path through it. Assumes nothing.
use Rattle.std.specs.Prelude.{ℕ, suc, ◌+◌, ◌*◌, ◌-◌, ◌^◌, ◌≤◌, ◌<◌, ◌≡◌, Bool, List, [], ◌∷◌, length, get_or, drop, eqb, ltb, None, Option, Some}
use Rattle.std.proofs.Math.Path.{refl, ap}
use Rattle.std.proofs.Common.{sym, ◌∙◌, arith, add-one, drop_of_length-le, drop-cons}
use Rattle.std.proofs.Math.Bool.{true, false}
use borrow.Author.Tests.{ltb-false, ltb-true, lt-ltb, le-ltb, le-leb}
use Rattle.notation.specs.Choice.{pick, both}
use Rattle.notation.proofs.Facts.Tests.{clash, pick_true, pick_false, pick_cases}
use Rattle.listing_text.specs.Numbers.{is_digit, digits, number}
use Rattle.listing_text.specs.Model.{add_digit, zero_first}
use Rattle.listing_text.proofs.Facts.Chain.{no_value}

-- a number past 64 bits stays bad, whatever bytes follow
digits_big : (v : ℕ) (s : List ℕ) → 2 ^ 64 ≤ v → digits v s ≡ None
unfolding digits
digits_big v [] h = pick_false (ltb v (2 ^ 64)) (Some v) None (le-ltb v (2 ^ 64) h)
digits_big v (b ∷ s) h =
    pick_cases (is_digit b) (digits (v * 10 + (b - 48)) s) None (λ r. r ≡ None) (λ _. digits_big (v * 10 + (b - 48)) s (omega arith)) (λ _. refl)

-- one more digit, by the two tests of `add_digit`: a digit, and within 64 bits
module _ (v b : ℕ) where
  more : ℕ
  more = v * 10 + (b - 48)

  good_in : (t u : Bool) (w : ℕ) → pick t (pick u (Some more) None) None ≡ Some w → (t ≡ true) × (u ≡ true) × (more ≡ w)
  unfolding pick
  good_in true true w p = (refl, refl, cc)
  good_in true false w p = absurd (no_value p)
  good_in false u w p = absurd (no_value p)

  digit_good : (s : List ℕ) (w : ℕ) → add_digit v b ≡ Some w → (digits v (b ∷ s) ≡ digits w s) × (w < 2 ^ 64)
  unfolding add_digit digits more
  digit_good s w p =
      let q = good_in (is_digit b) (ltb more (2 ^ 64)) w p in
      (pick_true _ _ _ q.0 ∙ ap (λ n. digits n s) q.2, rw (← q.2) (ltb-true more (2 ^ 64) q.1))

  bad_in : (s : List ℕ) (t u : Bool) → ltb more (2 ^ 64) ≡ u → pick t (pick u (Some more) None) None ≡ None → pick t (digits more s) None ≡ None
  unfolding pick
  bad_in s true true e p = absurd (no_value (sym p))
  bad_in s true false e p = digits_big more s (ltb-false more (2 ^ 64) e)
  bad_in s false u e p = refl

  digit_bad : (s : List ℕ) → add_digit v b ≡ None → digits v (b ∷ s) ≡ None
  unfolding add_digit digits more
  digit_bad s p = bad_in s (is_digit b) (ltb more (2 ^ 64)) refl p

-- ---- the loop of `read_digits`, for any result x
module _ (s : List ℕ) (i v : ℕ) (x r : Option ℕ) (e : r ≡ add_digit v (get_or s i 0)) (h : i < length s) where
  pub digits_next : (w : ℕ) → r ≡ Some w → digits v (drop i s) ≡ x → digits w (drop (i + 1) s) ≡ x
  digits_next w q p = sym (rw (drop-cons s i 0 h, ← add-one i) (digit_good v (get_or s i 0) (drop (i + 1) s) w (sym e ∙ q)).0) ∙ p

  pub digits_stop : r ≡ None → digits v (drop i s) ≡ x → None ≡ x
  digits_stop q p = sym (rw (drop-cons s i 0 h, ← add-one i) (digit_bad v (get_or s i 0) (drop (i + 1) s) (sym e ∙ q))) ∙ p

pub digits-end : (s : List ℕ) (i v : ℕ) (x : Option ℕ) → length s ≤ i → v < 2 ^ 64 → digits v (drop i s) ≡ x → Some v ≡ x
unfolding digits pick
digits-end s i v x h f p = simp (drop_of_length-le s {i = i} h, lt-ltb v (2 ^ 64) f) at p

-- ---- the cases of `read_number`
pub number-none : (s : List ℕ) → length s ≡ 0 → None ≡ number s
unfolding number
number-none [] h = refl
number-none (b ∷ s) h = absurd (let z : suc (length s) ≡ 0 = h in omega arith)

pub number_zero : (s : List ℕ) (r : Bool) → r ≡ zero_first s → r ≡ true → None ≡ number s
unfolding number zero_first both pick
number_zero [] r e z = absurd (clash z e)
number_zero (b ∷ []) r e z = absurd (clash z e)
number_zero (b ∷ c ∷ s) r e z = let k : eqb b 48 ≡ true = sym (sym z ∙ (simp (le-leb 2 (suc (suc (length s))) (omega arith)) at e)) in simp k

pub number_digits : (s : List ℕ) (r : Bool) (d : Option ℕ) → d ≡ digits 0 s → r ≡ zero_first s → r ≡ false → (length s ≡ 0 → ⊥) → d ≡ number s
unfolding number zero_first both pick
number_digits [] r d g e z h = absurd (h refl)
number_digits (b ∷ []) r d g e z h = g
number_digits (b ∷ c ∷ s) r d g e z h = let k : eqb b 48 ≡ false = sym (sym z ∙ (simp (le-leb 2 (suc (suc (length s))) (omega arith)) at e)) in simp k g
