-- What the operations of one side do, a lemma for each return. Assumes nothing.
use Rattle.std.specs.Prelude.{◌≡◌, false, not, List, ℕ, ◌+◌, ◌-◌, ◌≤◌, ◌<◌, eqb, leb, get_or, set}
use Rattle.std.proofs.Common.{refl, le-leb, sym, ◌∙◌, ap, arith, leb-false, lt-ltb, le-ltb, eq-eqb, ne_eqb}
use Rattle.std.proofs.lemmas.Bool.{lt-leb}
use Rattle.notation.specs.Choice.{pick, both}
use Rattle.notation.proofs.Facts.Tests.{by_test, pick_cases}
use Rattle.rle_stack.specs.Model.{side, symbol_under, grown_of, push_of, lacks, take_of, run_fits}

-- ---- a push

pub push-none : (s n k t : ℕ) (ss ls : List ℕ) → t ≡ symbol_under ss k → s ≡ t → k ≡ 0 → side ss ls 0 ≡ push_of s n (side ss ls k)
unfolding push_of grown_of pick
push-none s n k t ss ls q e z = ap (side ss ls) (sym z) ∙ simp (eq-eqb s (symbol_under ss k) (e ∙ q), eq-eqb k 0 z)

pub push_grows : (s n k t : ℕ) (ss ls : List ℕ) → t ≡ symbol_under ss k → s ≡ t → (k ≡ 0 → ⊥)
    → side ss (set ls (k - 1) (get_or ls (k - 1) 0 + n)) k ≡ push_of s n (side ss ls k)
unfolding push_of grown_of pick
push_grows s n k t ss ls q e z = simp (eq-eqb s (symbol_under ss k) (e ∙ q), ne_eqb k 0 z)

pub push_adds : (s n k t : ℕ) (ss ls : List ℕ) → t ≡ symbol_under ss k → (s ≡ t → ⊥)
    → side (set ss k s) (set ls k n) (k + 1) ≡ push_of s n (side ss ls k)
unfolding push_of pick
push_adds s n k t ss ls q e = simp (ne_eqb s (symbol_under ss k) (λ p. e (p ∙ sym q)))

pub lacks_room : (p s k : ℕ) (ss ls : List ℕ) → k < p → false ≡ lacks p s (side ss ls k)
unfolding lacks
lacks_room p s k ss ls h = pick_cases (eqb s (symbol_under ss k)) false (leb p k) (λ b. false ≡ b) (λ e. refl) (λ e. sym (lt-leb p k h))

pub lacks_full : (p s k t : ℕ) (ss ls : List ℕ) → t ≡ symbol_under ss k → p ≤ k → not (eqb s t) ≡ lacks p s (side ss ls k)
unfolding lacks pick
lacks_full p s k t ss ls q h =
    ap (λ (x : ℕ). not (eqb s x)) q ∙ by_test (eqb s (symbol_under ss k)) (λ e. simp e) (λ e. simp (e, le-leb p k h))

pub lacks_new : (p s k t : ℕ) (ss ls : List ℕ) → t ≡ symbol_under ss k → (s ≡ t → ⊥) → leb p k ≡ lacks p s (side ss ls k)
unfolding lacks pick
lacks_new p s k t ss ls q e = simp (ne_eqb s (symbol_under ss k) (λ x. e (x ∙ sym q)))

-- where a new run does not lack a place, there is one
pub has-place : (p s k t : ℕ) (ss ls : List ℕ) → t ≡ symbol_under ss k → (s ≡ t → ⊥) → lacks p s (side ss ls k) ≡ false → k < p
has-place p s k t ss ls q e h = leb-false p k (lacks_new p s k t ss ls q e ∙ h)

-- ---- cells taken off the top run

pub take_none : (n k : ℕ) (ss ls : List ℕ) → k ≡ 0 → side ss ls 0 ≡ take_of n (side ss ls k)
unfolding take_of pick
take_none n k ss ls z = ap (side ss ls) (sym z) ∙ simp (eq-eqb k 0 z)

pub take_whole : (n k m : ℕ) (ss ls : List ℕ) → (k ≡ 0 → ⊥) → m ≡ get_or ls (k - 1) 0 - n → m ≡ 0
    → side ss (set ls (k - 1) m) (k - 1) ≡ take_of n (side ss ls k)
unfolding take_of pick
take_whole n k m ss ls h e z = simp (ne_eqb k 0 h, ← e, eq-eqb m 0 z)

pub take_part : (n k m : ℕ) (ss ls : List ℕ) → (k ≡ 0 → ⊥) → m ≡ get_or ls (k - 1) 0 - n → (m ≡ 0 → ⊥)
    → side ss (set ls (k - 1) m) k ≡ take_of n (side ss ls k)
unfolding take_of pick
take_part n k m ss ls h e z = simp (ne_eqb k 0 h, ← e, ne_eqb m 0 z)

-- ---- the test of one run

pub run_empty : (k i : ℕ) (ss ls : List ℕ) → get_or ls i 0 ≡ 0 → false ≡ run_fits k ss ls i
unfolding run_fits both
run_empty k i ss ls e = simp (le-ltb 0 (get_or ls i 0) (omega arith))

pub run-over : (k i s : ℕ) (ss ls : List ℕ) → s ≡ get_or ss i 0 → (get_or ls i 0 ≡ 0 → ⊥) → k ≤ s → false ≡ run_fits k ss ls i
unfolding run_fits both
run-over k i s ss ls q e h = simp (lt-ltb 0 (get_or ls i 0) (omega arith), le-ltb (get_or ss i 0) k (omega arith))

pub run_rest : (k i s t : ℕ) (ss ls : List ℕ) → s ≡ get_or ss i 0 → t ≡ symbol_under ss i → (get_or ls i 0 ≡ 0 → ⊥) → s < k → not (eqb (get_or ss i 0) t) ≡ run_fits k ss ls i
unfolding run_fits both
run_rest k i s t ss ls q u e h = simp (lt-ltb 0 (get_or ls i 0) (omega arith), lt-ltb (get_or ss i 0) k (omega arith), u)
