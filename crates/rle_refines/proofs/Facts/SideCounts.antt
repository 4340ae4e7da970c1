-- How many cells of a side are not blank: those of its runs that are not blank. Assumes nothing.
use Rattle.std.specs.Prelude.{◌≡◌, refl, Bool, true, false, List, get_or}
use Rattle.std.proofs.Math.Path.{ap}
use Rattle.std.proofs.Common.{◌∙◌}
use Prim.Native.Nat.{ℕ, zero, suc, ◌+◌, ◌-◌, ◌<◌}
use native.Mathlib.Omega.{arith}
use Rattle.std.proofs.Math.Dec.{eqb}
use Rattle.notation.specs.Choice.{pick}
use Rattle.notation.specs.ScanDown.{count_fails}
use Rattle.rle_stack.specs.Model.{sum_of, weight_of}
use Rattle.rle_refines.specs.Meaning.{stack_upto, Stream, stream}
use Rattle.rle_refines.proofs.Facts.SideCells.{prepend_in, prepend_past}

-- ---- the number of indexes that fail a test

pub count_same : (p q : ℕ → Bool) (n : ℕ) → ((i : ℕ) → i < n → p i ≡ q i) → count_fails p n ≡ count_fails q n
unfolding count_fails
count_same p q zero h = refl
count_same p q (suc n) h =
    let a : count_fails p n ≡ count_fails q n = count_same p q n (λ i l. h i (omega arith)) in
    let b : p n ≡ q n = h n (omega arith) in
    λ i. a i + pick (b i) 0 1

-- the first a indexes, then b more
pub count_add : (p : ℕ → Bool) (a b : ℕ) → count_fails p (a + b) ≡ count_fails p a + count_fails (λ i. p (a + i)) b
unfolding count_fails
count_add p a zero =
    let e : a + 0 ≡ a = omega arith in
    omega (arith, ap (count_fails p) e)
count_add p a (suc b) =
    let e : a + suc b ≡ suc (a + b) = omega arith in
    omega (arith, ap (count_fails p) e, count_add p a b)

-- the test has the same result for all
count_alike : (p : ℕ → Bool) (b : Bool) (n : ℕ) → ((i : ℕ) → i < n → p i ≡ b) → count_fails p n ≡ pick b 0 n
unfolding count_fails pick
count_alike p true zero h = refl
count_alike p false zero h = refl
count_alike p true (suc n) h = rw (h n (omega arith), count_alike p true n (λ i l. h i (omega arith))) (omega arith)
count_alike p false (suc n) h = rw (h n (omega arith), count_alike p false n (λ i l. h i (omega arith))) (omega arith)

-- counted from the other end
pub count_back : (p : ℕ → Bool) (n : ℕ) → count_fails (λ i. p (n - 1 - i)) n ≡ count_fails p n
unfolding count_fails
count_back p zero = refl
count_back p (suc n) =
    let a : count_fails (λ i. p (suc n - 1 - i)) n ≡ count_fails (λ i. p (1 + (n - 1 - i))) n
    = count_same _ _ n (λ i l. let e : suc n - 1 - i ≡ 1 + (n - 1 - i) = omega arith in ap p e) in
    let b : suc n - 1 - n ≡ 0 = omega arith in
    let c : suc n ≡ 1 + n = omega arith in
    (λ i. (a ∙ count_back (λ j. p (1 + j)) n) i + pick (p (b i)) 0 1) ∙ omega (arith, ap (count_fails p) c, count_add p 1 n)

-- ---- a side

abbrev pub blank_in : Stream → ℕ → Bool
blank_in f d = eqb (f d) 0

pub weight_is : (ss ls : List ℕ) (n : ℕ) → count_fails (blank_in (stream (stack_upto ss ls n))) (sum_of ls n) ≡ weight_of ss ls n
unfolding count_fails sum_of weight_of
weight_is ss ls zero = refl
weight_is ss ls (suc n) =
    let k : ℕ = get_or ls n 0 in
    let f : Stream = stream (stack_upto ss ls n) in
    let g : Stream = stream (stack_upto ss ls (suc n)) in
    let c : sum_of ls n + k ≡ k + sum_of ls n = omega arith in
    let a : count_fails (blank_in g) k ≡ pick (eqb (get_or ss n 0) 0) 0 k
    = count_alike (blank_in g) (eqb (get_or ss n 0) 0) k (λ i l. ap (λ x. eqb x 0) (prepend_in k (get_or ss n 0) f i l)) in
    let b : count_fails (λ i. blank_in g (k + i)) (sum_of ls n) ≡ count_fails (blank_in f) (sum_of ls n)
    = count_same _ _ (sum_of ls n) (λ i l. let e : k + i - k ≡ i = omega arith in ap (λ x. eqb x 0) (prepend_past k (get_or ss n 0) f (k + i) (omega arith) ∙ ap f e)) in
    ap (count_fails (blank_in g)) c ∙ count_add (blank_in g) k (sum_of ls n) ∙ omega (arith, a, b, weight_is ss ls n)
