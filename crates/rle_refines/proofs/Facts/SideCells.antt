-- The cells of a side by their distance: the code finds each one; the nearest and the furthest cell that is not blank. Assumes nothing.
use Rattle.std.specs.Prelude.{◌≡◌, refl, List, eqb, ltb, get_or}
use Rattle.std.proofs.Common.{sym, ap, ◌∙◌, eqb-true, ltb-true, ltb-false}
use Prim.Native.Nat.{ℕ, zero, suc, ◌+◌, ◌-◌, ◌≤◌, ◌<◌}
use native.Mathlib.Omega.{arith}
use Rattle.std.proofs.lemmas.Bool.{eqb-false}
use Rattle.notation.specs.Choice.{pick}
use Rattle.notation.proofs.Facts.Tests.{pick_cases}
use Rattle.rle_stack.specs.Model.{side, sum_of, symbol_in, near_of}
use Rattle.rle_refines.specs.Meaning.{Stack, empty, over, stack_upto, top, Stream, prepend, stream, RunsFit}
use Rattle.rle_refines.proofs.Facts.Stack.{total, first_cell, prepend-first}
use Rattle.rle_refines.proofs.Facts.Sides.{top_is, total_is}

-- ---- n equal cells before a stream, each by its place

pub prepend_in : (n a : ℕ) (f : Stream) (d : ℕ) → d < n → prepend n a f d ≡ a
prepend_in zero a f d h = absurd (omega arith)
prepend_in (suc n) a f zero h = refl
prepend_in (suc n) a f (suc d) h = prepend_in n a f d (omega arith)

pub prepend_past : (n a : ℕ) (f : Stream) (d : ℕ) → n ≤ d → prepend n a f d ≡ f (d - n)
prepend_past zero a f d h = let e : d ≡ d - 0 = omega arith in ap f e
prepend_past (suc n) a f zero h = absurd (omega arith)
prepend_past (suc n) a f (suc d) h =
    let e : d - n ≡ suc d - suc n = omega arith in
    prepend_past n a f d (omega arith) ∙ ap f e

-- ---- the code finds the cell

pub cell_at_lem : (ss ls : List ℕ) (n d : ℕ) → symbol_in ss ls n d ≡ stream (stack_upto ss ls n) d
unfolding symbol_in
cell_at_lem ss ls zero d = refl
cell_at_lem ss ls (suc n) d = pick_cases (ltb d (get_or ls n 0)) (get_or ss n 0) _ (λ x. x ≡ prepend (get_or ls n 0) (get_or ss n 0) (stream (stack_upto ss ls n)) d)
    (λ t. sym (prepend_in _ _ _ d (ltb-true _ _ t)))
    (λ t. cell_at_lem ss ls n (d - get_or ls n 0) ∙ sym (prepend_past _ _ _ d (ltb-false _ _ t)))

-- ---- past the stack all cells are blank, and its last cell is not

pub past_cells : (r : Stack) (d : ℕ) → total r ≤ d → stream r d ≡ 0
past_cells empty d h = refl
past_cells (over s n r) d h = prepend_past n s (stream r) d (omega arith) ∙ past_cells r (d - n) (omega arith)

module _ (k : ℕ) where
  last_cell : (s n : ℕ) (r : Stack) → RunsFit k (over s n r) → ¬ (stream (over s n r) (n + total r - 1) ≡ 0)
  last_cell s n empty f e = f.2 (sym (prepend_in n s (stream empty) (n + 0 - 1) (omega (arith, f.0))) ∙ e)
  last_cell s n (over t m r) f e =
      let q : n + (m + total r) - 1 - n ≡ m + total r - 1 = omega (arith, f.3.0) in
      last_cell t m r f.3 (sym (prepend_past n s (stream (over t m r)) (n + (m + total r) - 1) (omega (arith, f.3.0)) ∙ ap (stream (over t m r)) q) ∙ e)

-- ---- the distances of the nearest cell that is not blank, and of the furthest; the next cell is at distance 1

pub record Bounds (f : Stream) (near far : ℕ) : Type 0 where
  pub some : 1 ≤ near
  pub within : near ≤ far
  pub near_written : ¬ (f (near - 1) ≡ 0)
  pub far_written : ¬ (f (far - 1) ≡ 0)
  pub before : (d : ℕ) → suc d < near → f d ≡ 0
  pub past : (d : ℕ) → far ≤ d → f d ≡ 0

module _ (k : ℕ) where
  some_cells : (r : Stack) → RunsFit k r → ¬ (top r ≡ 0) → 1 ≤ total r
  some_cells empty f h = absurd (h refl)
  some_cells (over s n r) f h = omega (arith, f.0)

  -- the run under a blank top run is not blank
  stack_ends : (s n : ℕ) (r : Stack) → RunsFit k (over s n r) → Bounds (stream (over s n r)) (pick (eqb s 0) (n + 1) 1) (n + total r)
  stack_ends s n r f = pick_cases (eqb s 0) (n + 1) 1 (λ x. Bounds (stream (over s n r)) x (n + total r))
      (λ t. record {
        some = omega arith;
        within = omega (arith, some_cells r f.3 (λ e. f.2 (eqb-true s 0 t ∙ sym e)));
        near_written = λ e. f.2 (eqb-true s 0 t ∙ sym (sym next ∙ e));
        far_written = last_cell k s n r f;
        before = λ d l. prepend_in n s (stream r) d (omega arith) ∙ eqb-true s 0 t;
        past = past_cells (over s n r);
      })
      (λ t. record {
        some = omega arith;
        within = omega (arith, f.0);
        near_written = λ e. eqb-false s 0 t (sym (prepend-first n s (stream r) f.0) ∙ e);
        far_written = last_cell k s n r f;
        before = λ d l. absurd (omega arith);
        past = past_cells (over s n r);
      })
    where
      next : stream (over s n r) (n + 1 - 1) ≡ top r
      next =
          let e : n + 1 - 1 - n ≡ 0 = omega arith in
          prepend_past n s (stream r) (n + 1 - 1) (omega arith) ∙ ap (stream r) e ∙ first_cell k r f.3

  near_is : (ss ls : List ℕ) (n : ℕ) → near_of (side ss ls (suc n)) ≡ pick (eqb (get_or ss n 0) 0) (get_or ls n 0 + 1) 1
  unfolding near_of
  near_is ss ls n =
      let e : suc n - 1 ≡ n = omega arith in
      (λ i. pick (eqb (top_is ss ls (suc n) i) 0) (get_or ls (e i) 0 + 1) 1)

  pub side_ends : (ss ls : List ℕ) (n : ℕ) → RunsFit k (stack_upto ss ls n) → ¬ (n ≡ 0) → Bounds (stream (stack_upto ss ls n)) (near_of (side ss ls n)) (sum_of ls n)
  side_ends ss ls zero f h = absurd (h refl)
  side_ends ss ls (suc n) f h = rw (near_is ss ls n, ← total_is ss ls (suc n)) (stack_ends (get_or ss n 0) (get_or ls n 0) (stack_upto ss ls n) f)
