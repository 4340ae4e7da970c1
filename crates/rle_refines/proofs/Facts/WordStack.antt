-- The word's right stack: the table machine's start tape has exactly one, and its height is the engine's count of the word's runs. Assumes nothing.
use Rattle.std.specs.Prelude.{◌≡◌, refl, List, eqb, ℤ, pos, negsuc, length, get_or}
use Rattle.std.proofs.Common.{sym, ap, ◌∙◌, zero-add, arith, eqb-true}
use Rattle.std.proofs.Math.Path.{fun_ext}
use Prim.Native.Nat.{ℕ, zero, suc, ◌+◌, ◌-◌, ◌≤◌, ◌<◌}
use Rattle.std.proofs.Math.ListN.{get_or-eq_default}
use Rattle.notation.specs.Choice.{pick}
use Rattle.notation.proofs.Facts.Position.{ints}
use Rattle.notation.proofs.Facts.Tests.{by_test, pick_true, pick_false}
use Rattle.table_machine.specs.TableMachine.{word_cell, start_tape}
use Rattle.rle.specs.Model.Operations.{runs_of}
use Rattle.rle_refines.specs.Meaning.{Stack, empty, over, top, Stream, blanks, cons, prepend, stream, distance, look, RunsFit}
use Rattle.rle_refines.specs.Full.{height, Stacked}
use Rattle.rle_refines.proofs.Facts.Stack.{grow, push, push_means, push_fits, top-push}
use Rattle.rle_refines.proofs.Facts.Tape.{diff-distance}
use Rattle.rle_refines.proofs.Facts.Canonical.{one_pair}

-- ---- symbols n to 1 of the word pushed, one by one

pushed : List ℕ → ℕ → Stack → Stack
pushed w zero r = r
pushed w (suc n) r = pushed w n (push (get_or w (suc n) 0) 1 r)

-- a push adds a run where the symbol differs from the top's
push-height : (s n : ℕ) (r : Stack) → height (push s n r) ≡ pick (eqb s (top r)) (height r) (height r + 1)
unfolding push
push-height s n r = by_test (eqb s (top r))
    (λ t. ap height (pick_true (eqb s (top r)) (grow n r) (over s n r) t) ∙ grown r ∙ sym (pick_true (eqb s (top r)) _ _ t))
    (λ t. ap height (pick_false (eqb s (top r)) (grow n r) (over s n r) t) ∙ omega arith ∙ sym (pick_false (eqb s (top r)) _ _ t))
  where
    grown : (r : Stack) → height (grow n r) ≡ height r
    grown empty = refl
    grown (over t m r) = refl

pushed-height : (w : List ℕ) (n : ℕ) (r : Stack) → height (pushed w n r) ≡ runs_of w n (top r) (height r)
unfolding runs_of pushed
pushed-height w zero r = refl
pushed-height w (suc n) r = pushed-height w n (push s 1 r) ∙ (λ i. runs_of w n (top-push s 1 r i) (push-height s 1 r i)) ∙ by_test (eqb s (top r))
    (λ t. (λ i. runs_of w n (eqb-true s (top r) t i) (pick_true (eqb s (top r)) (height r) (height r + 1) t i)) ∙ sym (pick_true (eqb s (top r)) _ _ t))
    (λ t. ap (runs_of w n s) (pick_false (eqb s (top r)) (height r) (height r + 1) t) ∙ sym (pick_false (eqb s (top r)) _ _ t))
  where
    s : ℕ
    s = get_or w (suc n) 0

-- the cells: the word's symbols after its first, and blanks after these
pushed-cells : (w : List ℕ) (n : ℕ) (r : Stack) → stream r ≡ (λ d. get_or w (suc (n + d)) 0) → stream (pushed w n r) ≡ (λ d. get_or w (suc d) 0)
unfolding pushed
pushed-cells w zero r e = e ∙ fun_ext (λ d. ap (λ j. get_or w (suc j) 0) (zero-add d))
pushed-cells w (suc n) r e = pushed-cells w n (push s 1 r) (push_means s 1 r ∙ ap (cons s) e ∙ fun_ext at)
  where
    s : ℕ
    s = get_or w (suc n) 0

    at : (d : ℕ) → cons s (λ d. get_or w (suc (suc n + d)) 0) d ≡ get_or w (suc (n + d)) 0
    at zero = let e : suc n ≡ suc (n + 0) = omega arith in ap (λ j. get_or w j 0) e
    at (suc d) = let e : suc (suc n + d) ≡ suc (n + suc d) = omega arith in ap (λ j. get_or w j 0) e

module _ (k : ℕ) (w : List ℕ) (below : (i : ℕ) → suc i < length w → get_or w (suc i) 0 < k) where
  pushed_fits : (n : ℕ) (r : Stack) → n ≤ length w - 1 → RunsFit k r → RunsFit k (pushed w n r)
  unfolding pushed
  pushed_fits zero r h f = f
  pushed_fits (suc n) r h f = pushed_fits n _ (omega arith) (push_fits k (get_or w (suc n) 0) 1 r (omega arith) (below n (omega arith)) f)

-- ---- the stack of the whole word past its first symbol

pub word_stack : List ℕ → Stack
word_stack w = pushed w (length w - 1) empty

pub word_stack_height : (w : List ℕ) → height (word_stack w) ≡ runs_of w (length w - 1) 0 0
unfolding word_stack
word_stack_height w = pushed-height w (length w - 1) empty

word_cells : (w : List ℕ) → stream (word_stack w) ≡ (λ d. get_or w (suc d) 0)
unfolding word_stack
word_cells w = pushed-cells w (length w - 1) empty (fun_ext (λ d. sym (get_or-eq_default w 0 (omega arith))))

from_zero : (z : ℤ) → distance (pos 0) z ≡ z
from_zero z = omega (ints, diff-distance (pos 0) z)

-- the start tape has this stack on the right, and an empty one on the left
pub word_stacked : (k : ℕ) (w : List ℕ) → ((i : ℕ) → suc i < length w → get_or w (suc i) 0 < k) → Stacked k (start_tape w) empty (word_stack w)
unfolding word_stack
word_stacked k w b = record {
  lefts = tt;
  rights = pushed_fits k w b (length w - 1) empty (omega arith) tt;
  cells = λ z. cell z ∙ ap (look blanks (get_or w 0 0) (stream (word_stack w))) (sym (from_zero z));
}
  where
    cell : (z : ℤ) → word_cell w z ≡ look blanks (get_or w 0 0) (stream (word_stack w)) z
    cell (pos zero) = refl
    cell (pos (suc d)) = sym (ap (λ (f : Stream). f d) (word_cells w))
    cell (negsuc d) = refl

-- ---- the start tape has no other right stack

more_symbols : (k : ℕ) (r : Stack) → RunsFit k r → RunsFit (suc k) r
more_symbols k empty f = f
more_symbols k (over s n r) f = (f.0, omega (arith, f.1), f.2, more_symbols k r f.3)

prepend-below : (k n a : ℕ) (f : Stream) → a < suc k → ((d : ℕ) → f d < suc k) → (d : ℕ) → prepend n a f d < suc k
prepend-below k zero a f h g d = g d
prepend-below k (suc n) a f h g zero = h
prepend-below k (suc n) a f h g (suc d) = prepend-below k n a f h g d

stream-below : (k : ℕ) (r : Stack) → RunsFit k r → (d : ℕ) → stream r d < suc k
stream-below k empty f d = omega arith
stream-below k (over s n r) f d = prepend-below k n s (stream r) (omega (arith, f.1)) (stream-below k r f.3) d

module _ (k : ℕ) (w : List ℕ) (l r : Stack) (st : Stacked k (start_tape w) l r) where
  symbol_below : (i : ℕ) → get_or w (suc i) 0 < suc k
  symbol_below i = rw (st.cells (pos (suc i)) ∙ ap (look (stream l) (get_or w 0 0) (stream r)) (from_zero (pos (suc i)))) (stream-below k r st.rights i)

  more : Stacked (suc k) (start_tape w) l r
  more = record { lefts = more_symbols k l st.lefts; rights = more_symbols k r st.rights; cells = st.cells }

  pub word_right_holds : r ≡ word_stack w
  word_right_holds = (one_pair (suc k) (start_tape w) l r empty (word_stack w) more (word_stacked (suc k) w (λ i h. symbol_below i))).1

  -- "the word's right stack has runs": their number
  pub word_height : height r ≡ runs_of w (length w - 1) 0 0
  word_height = ap height word_right_holds ∙ word_stack_height w
