-- A printed number is read back: `number (show n)` is n, for every number of 64 bits. Assumes nothing.
use Rattle.std.specs.Prelude.{ℕ, zero, suc, ◌+◌, ◌*◌, ◌-◌, ◌/◌, ◌%◌, ◌^◌, ◌≤◌, ◌<◌, ◌≡◌, refl, Bool, true, false, List, [], ◌∷◌, length, get_or, ltb, Some}
use Rattle.std.proofs.Common.{ap, ◌∙◌, arith, pow-suc, ltb-true, ltb-false, lt-ltb, le-leb, ne_eqb}
use Rattle.std.proofs.Math.Nat.{pow-zero}
use Rattle.notation.specs.Choice.{pick, both}
use Rattle.listing_text.specs.Numbers.{digits, number}
use Rattle.listing_text.specs.Show.{show, show_on}

digit_one : (v b : ℕ) (s : List ℕ) → 48 ≤ b → b ≤ 57 → digits v (b ∷ s) ≡ digits (v * 10 + (b - 48)) s
unfolding digits pick both
digit_one v b s h g = simp (le-leb 48 b h, le-leb b 57 g)

digits-show : (f n : ℕ) (after : List ℕ) → n < 10 ^ f → digits 0 (show_on f n after) ≡ digits n after
unfolding show_on pick
digits-show zero n after h = let z : n ≡ 0 = omega (arith, pow-zero 10) in rw z
digits-show (suc f) n after h = go (ltb n 10) refl (digits-show f (n / 10) ((48 + n % 10) ∷ after) (omega (arith, pow-suc 10 f)))
  where
    go : (t : Bool) → ltb n 10 ≡ t → digits 0 (show_on f (n / 10) ((48 + n % 10) ∷ after)) ≡ digits (n / 10) ((48 + n % 10) ∷ after)
        → digits 0 (pick t ((48 + n % 10) ∷ after) (show_on f (n / 10) ((48 + n % 10) ∷ after))) ≡ digits n after
    go true e ih =
        let k : 0 * 10 + ((48 + n % 10) - 48) ≡ n = omega (arith, ltb-true n 10 e) in
        digit_one 0 (48 + n % 10) after (omega arith) (omega arith) ∙ ap (λ (v : ℕ). digits v after) k
    go false e ih =
        let k : n / 10 * 10 + ((48 + n % 10) - 48) ≡ n = omega arith in
        ih ∙ digit_one (n / 10) (48 + n % 10) after (omega arith) (omega arith) ∙ ap (λ (v : ℕ). digits v after) k

first_digit : (f n : ℕ) (after : List ℕ) → n < 10 ^ f → 0 < n → get_or (show_on f n after) 0 0 ≡ 48 → ⊥
unfolding show_on pick
first_digit zero n after h g p = omega (arith, pow-zero 10)
first_digit (suc f) n after h g p =
    go (ltb n 10) refl (λ g. first_digit f (n / 10) ((48 + n % 10) ∷ after) (omega (arith, pow-suc 10 f)) g) p
  where
    go : (t : Bool) → ltb n 10 ≡ t → (0 < n / 10 → get_or (show_on f (n / 10) ((48 + n % 10) ∷ after)) 0 0 ≡ 48 → ⊥)
        → get_or (pick t ((48 + n % 10) ∷ after) (show_on f (n / 10) ((48 + n % 10) ∷ after))) 0 0 ≡ 48 → ⊥
    go true e ih p = let k : 48 + n % 10 ≡ 48 = p in omega (arith, k, ltb-true n 10 e)
    go false e ih p = ih (omega (arith, ltb-false n 10 e)) p

no_zero : (s : List ℕ) (v : ℕ) → digits 0 s ≡ Some v → (length s ≡ 0 → ⊥) → (get_or s 0 0 ≡ 48 → ⊥) → number s ≡ Some v
unfolding number pick
no_zero [] v p g h = absurd (g refl)
no_zero (b ∷ []) v p g h = p
no_zero (b ∷ c ∷ s) v p g h = simp (ne_eqb b 48 h) p

some_digit : (f n : ℕ) (after : List ℕ) → length (show_on (suc f) n after) ≡ 0 → ⊥
unfolding show_on pick
some_digit f n after p = go f (ltb n 10) (n / 10) ((48 + n % 10) ∷ after) (omega arith) p
  where
    long : (f n : ℕ) (s : List ℕ) → 0 < length s → 0 < length (show_on f n s)
    long zero n s h = h
    long (suc f) n s h = both_ways (ltb n 10) (long f (n / 10) ((48 + n % 10) ∷ s) (omega arith))
      where
        both_ways : (t : Bool) → 0 < length (show_on f (n / 10) ((48 + n % 10) ∷ s)) → 0 < length (pick t ((48 + n % 10) ∷ s) (show_on f (n / 10) ((48 + n % 10) ∷ s)))
        both_ways true q = omega arith
        both_ways false q = q

    go : (f : ℕ) (t : Bool) (m : ℕ) (s : List ℕ) → 0 < length s → length (pick t s (show_on f m s)) ≡ 0 → ⊥
    go f true m s h p = omega arith
    go f false m s h p = omega (arith, long f m s h)

-- every number of 64 bits is read back as it was printed
pub read_back : (n : ℕ) → n < 2 ^ 64 → number (show n) ≡ Some n
unfolding show show_on number both digits pick
read_back zero h = zero_back
  where
    zero_back : number (show_on 20 0 []) ≡ Some 0
    zero_back = refl
read_back (suc n) h =
    no_zero (show_on 20 (suc n) []) (suc n)
    (digits-show 20 (suc n) [] (omega arith) ∙ simp (lt-ltb (suc n) (2 ^ 64) h))
    (some_digit 19 (suc n) [])
    (first_digit 20 (suc n) [] (omega arith) (omega arith))
