-- Streams of cells, and push and take on a stack of runs: what they do to the cells, and what they keep. Assumes nothing.
use Rattle.std.specs.Prelude.{◌≡◌, eqb}
use Rattle.std.proofs.Math.Path.{refl, sym, ap, fun_ext}
use Rattle.std.proofs.Common.{◌∙◌, add_comm, zero-add, suc-add, eqb-true}
use Prim.Native.Nat.{ℕ, zero, suc, ◌+◌, ◌-◌, ◌≤◌, ◌<◌}
use native.Mathlib.Omega.{arith}
use Rattle.std.proofs.lemmas.Bool.{eqb-false}
use Rattle.notation.specs.Choice.{pick}
use Rattle.notation.proofs.Facts.Tests.{pick_cases}
use Rattle.rle_refines.specs.Meaning.{Stack, empty, over, top, Stream, blanks, cons, tail, prepend, stream, RunsFit}

-- ---- n equal cells before a stream

cons_blank : cons 0 blanks ≡ blanks
cons_blank = fun_ext at
  where
    at : (d : ℕ) → cons 0 blanks d ≡ 0
    at zero = refl
    at (suc d) = refl

pub prepend_blank : (n : ℕ) → prepend n 0 blanks ≡ blanks
prepend_blank zero = refl
prepend_blank (suc n) = ap (cons 0) (prepend_blank n) ∙ cons_blank

pub prepend-cons : (n a : ℕ) (f : Stream) → prepend n a (cons a f) ≡ cons a (prepend n a f)
prepend-cons zero a f = refl
prepend-cons (suc n) a f = ap (cons a) (prepend-cons n a f)

prepend_add : (m n a : ℕ) (f : Stream) → prepend (m + n) a f ≡ prepend m a (prepend n a f)
prepend_add zero n a f = ap (λ k. prepend k a f) (zero-add n)
prepend_add (suc m) n a f = ap (λ k. prepend k a f) (suc-add m n) ∙ ap (cons a) (prepend_add m n a f)

-- ---- push and take

-- the number of cells
abbrev pub total : Stack → ℕ
total empty = 0
total (over s n r) = n + total r

abbrev pub grow : ℕ → Stack → Stack
grow n empty = empty
grow n (over t m r) = over t (m + n) r

-- n cells of symbol s are put on top
unfoldable pub push : (s n : ℕ) → Stack → Stack
push s n r = pick (eqb s (top r)) (grow n r) (over s n r)

-- a run of length 0 is removed
abbrev pub trim : (s n : ℕ) → Stack → Stack
trim s zero r = r
trim s (suc n) r = over s (suc n) r

-- k cells are taken off the top run
unfoldable pub take : ℕ → Stack → Stack
take k empty = empty
take k (over s n r) = trim s (n - k) r

-- what holds in both cases of a push holds of the push
push_cases : (P : Stack → Type 0) (s n : ℕ) (r : Stack) → (s ≡ top r → P (grow n r)) → (¬ (s ≡ top r) → P (over s n r)) → P (push s n r)
unfolding push
push_cases P s n r f g = pick_cases (eqb s (top r)) _ _ P (λ t. f (eqb-true _ _ t)) (λ t. g (eqb-false _ _ t))

-- ---- the cells

grow_means : (n : ℕ) (r : Stack) → stream (grow n r) ≡ prepend n (top r) (stream r)
grow_means n empty = sym (prepend_blank n)
grow_means n (over t m r) = ap (λ k. prepend k t (stream r)) (add_comm m n) ∙ prepend_add n m t (stream r)

pub push_means : (s n : ℕ) (r : Stack) → stream (push s n r) ≡ prepend n s (stream r)
push_means s n r = push_cases (λ x. stream x ≡ prepend n s (stream r)) s n r (λ e. grow_means n r ∙ ap (λ k. prepend n k (stream r)) (sym e)) (λ _. refl)

trim_means : (s n : ℕ) (r : Stack) → stream (trim s n r) ≡ prepend n s (stream r)
trim_means s zero r = refl
trim_means s (suc n) r = refl

-- k cells of symbol a come first, and `take k` leaves the cells behind them
abbrev pub Reach : (a k : ℕ) → Stack → Type 0
Reach a k r = stream r ≡ prepend k a (stream (take k r))

take_means : (k s n : ℕ) (r : Stack) → k ≤ n → Reach s k (over s n r)
unfolding take
take_means k s n r h =
    let e : n ≡ k + (n - k) = omega arith in
    ap (λ m. prepend m s (stream r)) e ∙ prepend_add k (n - k) s (stream r) ∙ ap (prepend k s) (sym (trim_means s (n - k) r))

module _ (k : ℕ) where
  pub first_cell : (r : Stack) → RunsFit k r → stream r 0 ≡ top r
  first_cell empty f = refl
  first_cell (over s zero r) f = absurd (omega arith)
  first_cell (over s (suc n) r) f = refl

  pub other_cells : (r : Stack) → RunsFit k r → tail (stream r) ≡ stream (take 1 r)
  unfolding take
  other_cells empty f = refl
  other_cells (over s zero r) f = absurd (omega arith)
  other_cells (over s (suc n) r) f =
      let e : suc n - 1 ≡ n = omega arith in
      sym (trim_means s (suc n - 1) r ∙ ap (λ m. prepend m s (stream r)) e)

-- a stack whose cells are all blank is empty

prepend-blanks : (n s : ℕ) (f : Stream) → prepend n s f ≡ blanks → f ≡ blanks
prepend-blanks zero s f e = e
prepend-blanks (suc n) s f e = prepend-blanks n s f (ap tail e)

pub prepend-first : (n s : ℕ) (f : Stream) → 1 ≤ n → prepend n s f 0 ≡ s
prepend-first zero s f h = absurd (omega arith)
prepend-first (suc n) s f h = refl

not_blank : (k s n : ℕ) (r : Stack) → RunsFit k (over s n r) → stream (over s n r) ≡ blanks → ⊥
not_blank k s n empty f e = f.2 (sym (prepend-first n s blanks f.0) ∙ ap (λ (g : Stream). g 0) e)
not_blank k s n (over t m r) f e = not_blank k t m r f.3 (prepend-blanks n s (stream (over t m r)) e)

pub empty_of_blank : (k : ℕ) (r : Stack) → RunsFit k r → stream r ≡ blanks → r ≡ empty
empty_of_blank k empty f e = refl
empty_of_blank k (over s n r) f e = absurd (not_blank k s n r f e)

-- ---- the run ahead

abbrev pub ahead : ℕ → Stack → ℕ
ahead a empty = 0
ahead a (over s n r) = pick (eqb s a) n 0

pub reach_blank : (k : ℕ) → Reach 0 k empty
unfolding take
reach_blank k = sym (prepend_blank k)

pub reach-none : (a : ℕ) (r : Stack) → Reach a 0 r
unfolding take
reach-none a empty = refl
reach-none a (over s n r) = take_means 0 s n r (omega arith)

pub reach-run : (a k : ℕ) (r : Stack) → k ≤ ahead a r → Reach a k r
reach-run a k empty h =
    let e : 0 ≡ k = omega arith in
    rw (← e) (reach-none a empty)
reach-run a k (over s n r) h = pick_cases (eqb s a) n 0 (λ m. k ≤ m → Reach a k (over s n r))
    (λ t l. rw (← eqb-true s a t) (take_means k s n r l))
    (λ t l. let e : 0 ≡ k = omega arith in rw (← e) (reach-none a (over s n r))) h

-- the pushed symbol is on top, also a blank pushed on an empty stack
pub top-push : (s n : ℕ) (r : Stack) → top (push s n r) ≡ s
top-push s n r = push_cases (λ x. top x ≡ s) s n r (λ e. grown r e) (λ _. refl)
  where
    grown : (r : Stack) → s ≡ top r → top (grow n r) ≡ s
    grown empty e = sym e
    grown (over t m r) e = sym e

-- ---- what is kept: the stack rule, with symbols below k

module _ (k : ℕ) where
  pub push_fits : (s n : ℕ) (r : Stack) → 1 ≤ n → s < k → RunsFit k r → RunsFit k (push s n r)
  push_fits s n r l b f = push_cases (RunsFit k) s n r (λ _. grown r f) (λ e. (l, b, e, f))
    where
      grown : (r : Stack) → RunsFit k r → RunsFit k (grow n r)
      grown empty f = f
      grown (over t m r) f = (omega arith, f.1, f.2, f.3)

  trim_fits : (s n : ℕ) (r : Stack) → s < k → ¬ (s ≡ top r) → RunsFit k r → RunsFit k (trim s n r)
  trim_fits s zero r b e f = f
  trim_fits s (suc n) r b e f = (omega arith, b, e, f)

  pub take_fits : (n : ℕ) (r : Stack) → RunsFit k r → RunsFit k (take n r)
  unfolding take
  take_fits n empty f = f
  take_fits n (over s m r) f = trim_fits s (m - n) r f.1 f.2 f.3

  pub top_below : (r : Stack) → 0 < k → RunsFit k r → top r < k
  top_below empty h f = h
  top_below (over s n r) h f = f.1

-- ---- sums

pub push-total : (s n : ℕ) (r : Stack) → total (push s n r) ≤ total r + n
push-total s n r = push_cases (λ x. total x ≤ total r + n) s n r (λ _. grown r) (λ _. omega arith)
  where
    grown : (r : Stack) → total (grow n r) ≤ total r + n
    grown empty = omega arith
    grown (over t m r) = omega arith

pub take-total : (n : ℕ) (r : Stack) → total (take n r) ≤ total r
unfolding take
take-total n empty = omega arith
take-total n (over s m r) = omega (arith, trimmed (m - n))
  where
    trimmed : (j : ℕ) → total (trim s j r) ≤ j + total r
    trimmed zero = omega arith
    trimmed (suc j) = omega arith
