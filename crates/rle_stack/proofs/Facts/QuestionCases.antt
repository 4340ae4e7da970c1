-- The loops of the questions on one side. Assumes nothing.
use Rattle.std.specs.Prelude.{◌≡◌, refl, List, ℕ, zero, suc, ◌+◌, ◌-◌, ◌≤◌, ◌<◌, ltb, get_or}
use Rattle.std.proofs.Math.Path.{sym}
use Rattle.std.proofs.Common.{◌∙◌, ap, lt-ltb, le-ltb, eq-eqb, ne_eqb}
use native.Mathlib.Omega.{arith}
use Rattle.notation.specs.Choice.{pick}
use Rattle.notation.proofs.Facts.Tests.{pick_true, pick_false}
use Rattle.rle_stack.specs.Model.{side, symbol_under, sum_of, symbol_in, weight_at, weight_of, near_of}
use Rattle.rle_stack.proofs.Facts.Sides.{sum_part, sum_last, sum_next}

-- ---- the symbol at a distance

symbol_suc : (ss ls : List ℕ) (n d : ℕ) → symbol_in ss ls (suc n) d ≡ pick (ltb d (get_or ls n 0)) (get_or ss n 0) (symbol_in ss ls n (d - get_or ls n 0))
unfolding symbol_in
symbol_suc ss ls n d = refl

-- in the code's form: n runs are left
symbol_turn : (ss ls : List ℕ) (n d : ℕ) → 0 < n → symbol_in ss ls n d ≡ pick (ltb d (get_or ls (n - 1) 0)) (get_or ss (n - 1) 0) (symbol_in ss ls (n - 1) (d - get_or ls (n - 1) 0))
symbol_turn ss ls zero d h = absurd (omega arith)
symbol_turn ss ls (suc n) d h =
    let e : n ≡ suc n - 1 = omega arith in
    symbol_suc ss ls n d ∙ (λ i. pick (ltb d (get_or ls (e i) 0)) (get_or ss (e i) 0) (symbol_in ss ls (e i) (d - get_or ls (e i) 0)))

module _ (ss ls : List ℕ) (n d x : ℕ) (inv : symbol_in ss ls n d ≡ x) where
  pub symbol_here : 0 < n → d < get_or ls (n - 1) 0 → get_or ss (n - 1) 0 ≡ x
  symbol_here h l = sym (pick_true (ltb d (get_or ls (n - 1) 0)) _ _ (lt-ltb d (get_or ls (n - 1) 0) l)) ∙ sym (symbol_turn ss ls n d h) ∙ inv

  pub symbol_further : 0 < n → get_or ls (n - 1) 0 ≤ d → symbol_in ss ls (n - 1) (d - get_or ls (n - 1) 0) ≡ x
  symbol_further h l = sym (pick_false (ltb d (get_or ls (n - 1) 0)) _ _ (le-ltb d (get_or ls (n - 1) 0) l)) ∙ sym (symbol_turn ss ls n d h) ∙ inv

  pub symbol_none : n ≤ 0 → 0 ≡ x
  unfolding symbol_in
  symbol_none h =
      let e : n ≡ 0 = omega arith in
      sym (ap (λ (k : ℕ). symbol_in ss ls k d) e) ∙ inv

-- ---- cells that are not blank

pub written_start : (ss ls : List ℕ) → (0 ≡ weight_of ss ls 0) × (0 ≤ sum_of ls 0)
unfolding weight_of
written_start ss ls = (refl, omega arith)

weight_suc : (ss ls : List ℕ) (n : ℕ) → weight_of ss ls (suc n) ≡ weight_of ss ls n + weight_at ss ls n
unfolding weight_of
weight_suc ss ls n = refl

pub written_next : (ss ls : List ℕ) (i sum w : ℕ) → (sum ≡ weight_of ss ls i) × (sum ≤ sum_of ls i) → (w ≡ weight_at ss ls i) × (w ≤ get_or ls i 0)
    → (sum + w ≡ weight_of ss ls (i + 1)) × (sum + w ≤ sum_of ls (i + 1))
written_next ss ls i sum w p q =
    let e : i + 1 ≡ suc i = omega arith in
    (omega (arith, p.0, q.0, ap (weight_of ss ls) e, weight_suc ss ls i), omega (arith, p.1, q.1, sum_next i (sum_of ls i) ls refl))

-- with one more run the sum is still at most that of all lengths
pub written_room : (ss ls : List ℕ) (i n sum w : ℕ) → (sum ≡ weight_of ss ls i) × (sum ≤ sum_of ls i) → (w ≡ weight_at ss ls i) × (w ≤ get_or ls i 0) → i < n → sum + w ≤ sum_of ls n
written_room ss ls i n sum w p q h = omega (arith, (written_next ss ls i sum w p q).1, sum_part ls (i + 1) n (omega arith))

pub written_all : (ss ls : List ℕ) (i n sum : ℕ) → (sum ≡ weight_of ss ls i) × (sum ≤ sum_of ls i) → i ≤ n → n ≤ i → (sum ≡ weight_of ss ls n) × (sum ≤ sum_of ls n)
written_all ss ls i n sum p l h =
    let e : i ≡ n = omega arith in
    (p.0 ∙ ap (weight_of ss ls) e, omega (arith, p.1, ap (sum_of ls) e))

-- ---- the nearest cell that is not blank

near_blank : (ss ls : List ℕ) (n : ℕ) → symbol_under ss n ≡ 0 → get_or ls (n - 1) 0 + 1 ≡ near_of (side ss ls n)
unfolding near_of pick
near_blank ss ls n e = rw (eq-eqb (symbol_under ss n) 0 e)

pub near_under : (ss ls : List ℕ) (n t : ℕ) → 0 < n → t ≡ symbol_under ss n → t ≡ 0 → (get_or ls (n - 1) 0 + 1 ≡ near_of (side ss ls n)) × (get_or ls (n - 1) 0 + 1 ≤ sum_of ls n + 1)
near_under ss ls n t h e z = (near_blank ss ls n (sym e ∙ z), omega (arith, sum_last n ls (λ y. omega arith)))

pub near_next : (ss ls : List ℕ) (n t : ℕ) → 0 < n → t ≡ symbol_under ss n → (t ≡ 0 → ⊥) → (1 ≡ near_of (side ss ls n)) × (1 ≤ sum_of ls n + 1)
unfolding near_of pick
near_next ss ls n t h e z = (rw (ne_eqb (symbol_under ss n) 0 (λ y. z (e ∙ y))), omega arith)
