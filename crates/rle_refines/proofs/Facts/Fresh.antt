-- A fresh engine fits and holds the table machine's start: "the start state, heads at 0, tape 0 holding the word from 0 rightward, all else blank".
-- Assumes nothing.
use Rattle.std.specs.Prelude.{◌≡◌, List, [], eqb, ℤ, pos, negsuc, length, get_or}
use Rattle.std.proofs.Math.Path.{refl, sym, ap, fun_ext}
use Rattle.std.proofs.Common.{◌∙◌, subst, zero-add, eqb-true, ne_eqb}
use Prim.Native.Nat.{ℕ, zero, suc, ◌+◌, ◌-◌, ◌≤◌, ◌<◌, ◌^◌}
use Rattle.std.proofs.Math.Decide.{dec_lt}
use native.Mathlib.Omega.{arith}
use Rattle.std.proofs.Math.ListN.{get_or-eq_default}
use Rattle.notation.specs.Choice.{pick}
use Rattle.notation.specs.Position.{◌⊖◌}
use Rattle.notation.proofs.Facts.Position.{ints, diff-⊖}
use Rattle.notation.proofs.Facts.Tests.{by_test, pick_cases, pick_true, pick_false}
use Rattle.notation.specs.Limits.{word_most, raised_zero}
use Rattle.machine.specs.declared.Machine.{Machine}
use Rattle.table_machine.specs.TableMachine.{word_cell, start_tape, start}
use Rattle.table_machine.proofs.Facts.Tape.{tape-≡}
use Rattle.rle_stack.specs.Model.{Side, side, places_of, top_of, push_of, cells_of, sum_of, symbol_under}
use Rattle.rle_stack.specs.Invariants.{SameLengths}
use Rattle.rle_stack.proofs.Facts.Sides.{same_then, same-places, push-same, push_count}
use Rattle.rle.specs.Model.Engine.{Conf, conf}
use Rattle.rle.specs.Model.Operations.{laid_of, runs_of, fresh_sim}
use Rattle.rle_refines.specs.Meaning.{stack_of, top, Stream, blanks, cons, stream, stream_of, distance, look, tape_around, config_of, RunsFit, ChainFits}
use Rattle.rle_refines.proofs.Facts.Stack.{total, push, push_means, push_fits, push-total, top-push}
use Rattle.rle_refines.proofs.Facts.Sides.{top_is, total_is, Live, Place, push_is, push-live}
use Rattle.rle_refines.proofs.Facts.Tape.{diff-distance}

-- ---- the runs that a word makes

-- the runs never become fewer
runs-more : (w : List ℕ) (n top count : ℕ) → count ≤ runs_of w n top count
unfolding runs_of
runs-more w zero t c = omega arith
runs-more w (suc n) t c = pick_cases (eqb (get_or w (suc n) 0) t) _ _ (λ r. c ≤ r) (λ _. runs-more w n t c) (λ _. omega (arith, runs-more w n (get_or w (suc n) 0) (c + 1)))

-- ---- symbols n to 1 are still to be pushed

pub record Laying (k : ℕ) (w : List ℕ) (n : ℕ) (x y : Side) : Type 0 where
  pub sizes : SameLengths x y
  pub live : Live y
  pub runs : RunsFit k (stack_of y)
  -- the word's symbols after number n, and blanks after these
  pub cells : stream_of y ≡ (λ d. get_or w (suc (n + d)) 0)
  pub sum : cells_of y + n ≤ length w
  pub room : runs_of w n (top_of y) y.count ≤ places_of y.symbols y.lengths

module _ (k : ℕ) (w : List ℕ) (word : (i : ℕ) → get_or w i 0 < k) (x : Side) where
  module _ (n : ℕ) (y : Side) (l : Laying k w (suc n) x y) where
    abbrev s : ℕ
    s = get_or w (suc n) 0

    abbrev next : Side
    next = push_of s 1 y

    free : Place s y
    unfolding runs_of
    free d = omega (arith, runs-more w n s (y.count + 1), l.room, pick_false (eqb s (top_of y)) (runs_of w n (top_of y) y.count) (runs_of w n s (y.count + 1)) (ne_eqb _ _ d))

    is : stack_of next ≡ push s 1 (stack_of y)
    is = push_is s 1 y l.live free

    next_top : top_of next ≡ s
    next_top = top_is next.symbols next.lengths next.count ∙ ap top is ∙ top-push s 1 (stack_of y)

    -- the push does not change the counted number of runs
    next_runs : runs_of w n (top_of next) next.count ≡ runs_of w (suc n) (top_of y) y.count
    unfolding runs_of
    next_runs = (λ i. runs_of w n (next_top i) (push_count s 1 y i)) ∙ by_test (eqb s (top_of y))
        (λ t. (λ i. runs_of w n (eqb-true s (top_of y) t i) (pick_true (eqb s (top_of y)) y.count (y.count + 1) t i)) ∙ sym (pick_true (eqb s (top_of y)) _ _ t))
        (λ t. ap (runs_of w n s) (pick_false (eqb s (top_of y)) y.count (y.count + 1) t) ∙ sym (pick_false (eqb s (top_of y)) _ _ t))

    next_cells : stream_of next ≡ (λ d. get_or w (suc (n + d)) 0)
    next_cells = ap stream is ∙ push_means s 1 (stack_of y) ∙ ap (cons s) l.cells ∙ fun_ext at
      where
        at : (d : ℕ) → cons s (λ d. get_or w (suc (suc n + d)) 0) d ≡ get_or w (suc (n + d)) 0
        at zero = let e : suc n ≡ suc (n + 0) = omega arith in ap (λ j. get_or w j 0) e
        at (suc d) = let e : suc (suc n + d) ≡ suc (n + suc d) = omega arith in ap (λ j. get_or w j 0) e

    lay_next : Laying k w n x next
    lay_next = record {
      sizes = same_then l.sizes (push-same s 1 y);
      live = push-live s 1 y l.live free;
      runs = subst (RunsFit k) (sym is) (push_fits k s 1 (stack_of y) (omega arith) (word (suc n)) l.runs);
      cells = next_cells;
      sum = omega (arith, l.sum, total_is next.symbols next.lengths next.count, total_is y.symbols y.lengths y.count, ap total is, push-total s 1 (stack_of y));
      room = omega (arith, next_runs, l.room, same-places (push-same s 1 y));
    }

  pub laid : (n : ℕ) (y : Side) → Laying k w n x y → Laying k w 0 x (laid_of w n y)
  unfolding laid_of
  laid zero y l = l
  laid (suc n) y l = laid n (push_of (get_or w (suc n) 0) 1 y) (lay_next n y l)

  -- nothing is pushed yet
  lay_first : (rs rl : List ℕ) → x ≡ side rs rl 0 → runs_of w (length w - 1) 0 0 ≤ places_of rs rl → Laying k w (length w - 1) x (side rs rl 0)
  unfolding sum_of symbol_under pick
  lay_first rs rl e room = record {
    sizes = rw e (record { symbols = refl; lengths = refl });
    live = omega arith;
    runs = tt;
    cells = fun_ext (λ d. sym (get_or-eq_default w 0 (omega arith)));
    sum = omega arith;
    room = room;
  }

-- ---- the engine

module _ (m : Machine) (w ls ll rs rl : List ℕ) (word : (i : ℕ) → get_or w i 0 < m.symbols) (short : length w ≤ word_most) (start_in : m.start < m.states)
    (room : runs_of w (length w - 1) 0 0 ≤ places_of rs rl) where
  abbrev right : Side
  right = laid_of w (length w - 1) (side rs rl 0)

  abbrev engine : Conf
  engine = conf (fresh_sim m w right.count) ls ll right.symbols right.lengths

  done : Laying m.symbols w 0 (side rs rl 0) right
  done = laid m.symbols w word (side rs rl 0) (length w - 1) (side rs rl 0) (lay_first m.symbols w word (side rs rl 0) rs rl refl room)

  pub fresh_sizes_holds : SameLengths (side rs rl 0) right
  fresh_sizes_holds = done.sizes

  pub fresh_holds : config_of engine ≡ start m.start w
  fresh_holds = λ i. record { state = m.start; steps = 0; tape0 = tape i; tape1 = start_tape []; tape2 = start_tape [] }
    where
      zero_is : raised_zero ⊖ 2 ^ 63 ≡ pos 0
      zero_is = omega (ints, diff-⊖ raised_zero (2 ^ 63))

      cell : (z : ℤ) → look blanks (get_or w 0 0) (stream_of right) z ≡ word_cell w z
      cell (pos zero) = refl
      cell (pos (suc d)) = ap (λ (f : Stream). f d) done.cells ∙ ap (λ j. get_or w (suc j) 0) (zero-add d)
      cell (negsuc d) = refl

      near : (z : ℤ) → distance (raised_zero ⊖ 2 ^ 63) z ≡ z
      near z = omega (ints, diff-distance (raised_zero ⊖ 2 ^ 63) z, zero_is)

      tape : tape_around blanks (get_or w 0 0) (stream_of right) raised_zero raised_zero raised_zero ≡ start_tape w
      tape = tape-≡ _ _ (λ z. ap (look blanks (get_or w 0 0) (stream_of right)) (near z) ∙ cell z) zero_is zero_is zero_is

  pub fresh_fits : ChainFits m engine
  unfolding sum_of
  fresh_fits = record {
    state_in_holds = start_in;
    steps_in = omega arith;
    macros_in = omega arith;
    read_in = word 0;
    low_head = omega arith;
    head_high = omega arith;
    low_near = omega arith;
    high_near = omega arith;
    lefts = record { live = omega arith; runs = tt; sum = omega arith };
    rights = record { live = done.live; runs = done.runs; sum = omega (arith, done.sum) };
    left_far = omega arith;
    right_far = omega (arith, done.sum);
  }

-- every symbol of a word is below k; past its end the symbol is the blank
pub word_all : (k : ℕ) (w : List ℕ) → 1 ≤ k → ((i : ℕ) → i < length w → get_or w i 0 < k) → (i : ℕ) → get_or w i 0 < k
word_all k w l h i = by (dec_lt i (length w))
  where
    by : Dec (i < length w) → get_or w i 0 < k
    by (yes g) = h i g
    by (no g) = rw (get_or-eq_default w 0 {n = i} (omega arith)) l
