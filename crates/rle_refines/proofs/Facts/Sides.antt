-- A side in its lent places: its tests, push and take are those of the stack of its live runs. What a macro step does to the two sides. Assumes nothing.
use Rattle.std.specs.Prelude.{◌≡◌, refl, false, List, ℕ, zero, suc, ◌+◌, ◌-◌, ◌≤◌, ◌<◌, eqb, length, get_or, set}
use Rattle.std.proofs.Math.Path.{sym, ap, subst}
use Rattle.std.proofs.Common.{◌∙◌, add-one, arith, eqb-true, eq-eqb, ne_eqb, leb-false, get_or-set_same, get_or-set_other}
use Rattle.std.proofs.lemmas.Bool.{eqb-false}
use Rattle.notation.specs.Choice.{pick}
use Rattle.notation.proofs.Facts.Tests.{by_test, pick_cases, pick_true, pick_false}
use Rattle.rle_stack.specs.Model.{Side, side, places_of, symbol_under, top_of, ahead_of, grown_of, push_of, lacks, take_of, sum_of, cells_of}
use Rattle.rle_stack.specs.Invariants.{SameLengths}
use Rattle.rle_stack.proofs.Facts.Sides.{push-same, push_count, take_same, take-fewer}
use Rattle.rle.specs.Model.Engine.{Carried, carry_of}
use Rattle.rle_refines.specs.Meaning.{Stack, over, stack_upto, stack_of, top, tail, prepend, stream, stream_of, RunsFit, SideFits}
use Rattle.rle_refines.proofs.Facts.Stack.{total, grow, push, trim, take, ahead, push_means, first_cell, other_cells, push_fits, take_fits, top_below, push-total, take-total, top-push}

one_less : (n : ℕ) → suc n - 1 ≡ n
one_less n = omega arith

not_zero : {A : Type 0} (n : ℕ) (x y : A) → pick (eqb (suc n) 0) x y ≡ y
not_zero n x y = pick_false (eqb (suc n) 0) x y (ne_eqb (suc n) 0 (λ e. omega arith))

-- ---- the tests

pub top_is : (ss ls : List ℕ) (n : ℕ) → symbol_under ss n ≡ top (stack_upto ss ls n)
unfolding symbol_under pick
top_is ss ls zero = refl
top_is ss ls (suc n) = not_zero n _ _ ∙ ap (λ j. get_or ss j 0) (one_less n)

pub total_is : (ss ls : List ℕ) (n : ℕ) → total (stack_upto ss ls n) ≡ sum_of ls n
unfolding sum_of
total_is ss ls zero = refl
total_is ss ls (suc n) = omega (arith, total_is ss ls n)

pub ahead_is : (a : ℕ) (ss ls : List ℕ) (n : ℕ) → ahead_of a (side ss ls n) ≡ ahead a (stack_upto ss ls n)
unfolding ahead_of pick
ahead_is a ss ls zero = refl
ahead_is a ss ls (suc n) = not_zero n _ _ ∙ ap (λ j. pick (eqb (get_or ss j 0) a) (get_or ls j 0) 0) (one_less n)

-- the live runs have places
abbrev pub Live : Side → Type 0
Live x = x.count ≤ places_of x.symbols x.lengths

-- a push needs no new run, or there is a place for it
abbrev pub Place : ℕ → Side → Type 0
Place s x = ¬ (s ≡ top_of x) → x.count < places_of x.symbols x.lengths

pub place : (s : ℕ) (x : Side) → lacks (places_of x.symbols x.lengths) s x ≡ false → Place s x
unfolding lacks
place s x e n = leb-false _ _ (sym (pick_false (eqb s (top_of x)) false _ (ne_eqb _ _ n)) ∙ e)

-- ---- push

-- a change at or past place n does not change the first n runs
past_symbols : (n j v : ℕ) (ss ls : List ℕ) → n ≤ j → stack_upto (set ss j v) ls n ≡ stack_upto ss ls n
past_symbols zero j v ss ls h = refl
past_symbols (suc n) j v ss ls h = λ i. over (get_or-set_other ss j n v 0 (omega arith) i) (get_or ls n 0) (past_symbols n j v ss ls (omega arith) i)

past_lengths : (n j v : ℕ) (ss ls : List ℕ) → n ≤ j → stack_upto ss (set ls j v) n ≡ stack_upto ss ls n
past_lengths zero j v ss ls h = refl
past_lengths (suc n) j v ss ls h = λ i. over (get_or ss n 0) (get_or-set_other ls j n v 0 (omega arith) i) (past_lengths n j v ss ls (omega arith) i)

set-top : (n v : ℕ) (ss ls : List ℕ) → n < length ls → stack_upto ss (set ls n v) (suc n) ≡ over (get_or ss n 0) v (stack_upto ss ls n)
set-top n v ss ls h = λ i. over (get_or ss n 0) (get_or-set_same ls n v 0 h i) (past_lengths n n v ss ls (omega arith) i)

grow_is : (n : ℕ) (ss ls : List ℕ) (count : ℕ) → count ≤ length ls → stack_of (grown_of n (side ss ls count)) ≡ grow n (stack_upto ss ls count)
unfolding grown_of pick
grow_is n ss ls zero h = refl
grow_is n ss ls (suc c) h = ap stack_of (not_zero c _ _) ∙ ap (λ j. stack_upto ss (set ls j (get_or ls j 0 + n)) (suc c)) (one_less c) ∙ set-top c (get_or ls c 0 + n) ss ls h

new_is : (s n : ℕ) (ss ls : List ℕ) (count : ℕ) → count < length ss → count < length ls → stack_upto (set ss count s) (set ls count n) (count + 1) ≡ over s n (stack_upto ss ls count)
new_is s n ss ls c h g = ap (stack_upto (set ss c s) (set ls c n)) (add-one c) ∙ set-top c n (set ss c s) ls g
    ∙ (λ i. over (get_or-set_same ss c s 0 h i) n (past_symbols c c s ss ls (omega arith) i))

pub push_is : (s n : ℕ) (x : Side) → Live x → Place s x → stack_of (push_of s n x) ≡ push s n (stack_of x)
unfolding push_of push
push_is s n x l p = by_test (eqb s (top_of x))
    (λ t. ap stack_of (pick_true (eqb s (top_of x)) _ _ t) ∙ grow_is n x.symbols x.lengths x.count (omega arith)
    ∙ sym (pick_true (eqb s (top (stack_of x))) _ _ (eq-eqb _ _ (eqb-true _ _ t ∙ same))))
    (λ t. let d = eqb-false _ _ t in
    ap stack_of (pick_false (eqb s (top_of x)) _ _ t) ∙ new_is s n x.symbols x.lengths x.count (omega (arith, p d)) (omega (arith, p d))
    ∙ sym (pick_false (eqb s (top (stack_of x))) _ _ (ne_eqb _ _ (λ e. d (e ∙ sym same)))))
  where
    same : top_of x ≡ top (stack_of x)
    same = top_is x.symbols x.lengths x.count

-- ---- take

cut_is : (n m : ℕ) (ss ls : List ℕ) → n < length ls → stack_upto ss (set ls n m) (pick (eqb m 0) n (suc n)) ≡ trim (get_or ss n 0) m (stack_upto ss ls n)
unfolding pick
cut_is n zero ss ls h = past_lengths n n 0 ss ls (omega arith)
cut_is n (suc m) ss ls h = ap (stack_upto ss (set ls n (suc m))) (not_zero m _ _) ∙ set-top n (suc m) ss ls h

take_is : (n : ℕ) (ss ls : List ℕ) (count : ℕ) → count ≤ length ls → stack_of (take_of n (side ss ls count)) ≡ take n (stack_upto ss ls count)
unfolding take_of take pick
take_is n ss ls zero h = refl
take_is n ss ls (suc c) h =
    ap stack_of (not_zero c _ _)
    ∙ ap (λ j. stack_upto ss (set ls j (get_or ls j 0 - n)) (pick (eqb (get_or ls j 0 - n) 0) j (suc c))) (one_less c)
    ∙ cut_is c (get_or ls c 0 - n) ss ls h

-- ---- the live runs still have places

pub push-live : (s n : ℕ) (x : Side) → Live x → Place s x → Live (push_of s n x)
push-live s n x l p =
    let z : SameLengths x (push_of s n x) = push-same s n x in
    pick_cases (eqb s (top_of x)) x.count (x.count + 1) (λ c. (push_of s n x).count ≡ c → Live (push_of s n x))
    (λ _ e. omega arith) (λ t e. omega (arith, p (eqb-false _ _ t))) (push_count s n x)

take-live : (n : ℕ) (x : Side) → Live x → Live (take_of n x)
take-live n x l =
    let z : SameLengths x (take_of n x) = take_same n x in
    omega (arith, take-fewer n x (take_of n x) refl)

-- ---- a macro step's two sides

-- n cells of w are written behind, and n are taken ahead; the last of these is then under the head
pub record Carries (k w n later : ℕ) (b a : Side) (c : Carried) : Type 0 where
  pub behind_cells : stream_of c.behind ≡ prepend n w (stream_of b)
  pub read : c.cur ≡ stream (take (n - 1) (stack_of a)) 0
  pub ahead_cells : stream_of c.ahead ≡ tail (stream (take (n - 1) (stack_of a)))
  pub read_in : 0 < k → c.cur < k
  pub behind_fits : SideFits k later c.behind
  pub ahead_fits : SideFits k later c.ahead
  pub behind_sum : cells_of c.behind ≤ cells_of b + n
  pub ahead_sum : cells_of c.ahead ≤ cells_of a
  -- another cell of w behind needs no new run
  pub again : top_of c.behind ≡ w

module _ (k w n most later : ℕ) (b a : Side) (some : 1 ≤ n) (grown : most + n ≤ later) (w-in : w < k) (fb : SideFits k most b) (fa : SideFits k most a)
    (room : lacks (places_of b.symbols b.lengths) w b ≡ false) where
  abbrev left_over : Stack
  left_over = take (n - 1) (stack_of a)

  abbrev rest : Side
  rest = take_of (n - 1) a

  abbrev last : Side
  last = take_of 1 rest

  free : Place w b
  free = place w b room

  rest_live : Live rest
  rest_live = take-live (n - 1) a fa.live

  behind_is : stack_of (push_of w n b) ≡ push w n (stack_of b)
  behind_is = push_is w n b fb.live free

  rest_is : stack_of rest ≡ left_over
  rest_is = take_is (n - 1) a.symbols a.lengths a.count (omega (arith, fa.live))

  last_is : stack_of last ≡ take 1 left_over
  last_is = take_is 1 rest.symbols rest.lengths rest.count (omega (arith, rest_live)) ∙ ap (take 1) rest_is

  rest_fits : RunsFit k left_over
  rest_fits = take_fits k (n - 1) (stack_of a) fa.runs

  top_read : top_of rest ≡ top left_over
  top_read = top_is rest.symbols rest.lengths rest.count ∙ ap top rest_is

  sums : (x : Side) (r : Stack) → stack_of x ≡ r → cells_of x ≡ total r
  sums x r e = sym (total_is x.symbols x.lengths x.count) ∙ ap total e

  more : cells_of (push_of w n b) ≤ cells_of b + n
  more = omega (arith, sums (push_of w n b) _ behind_is, sums b _ refl, push-total w n (stack_of b))

  fewer : cells_of last ≤ cells_of a
  fewer = omega (arith, sums last _ last_is, sums a _ refl, take-total 1 left_over, take-total (n - 1) (stack_of a))

  pub carry_holds : Carries k w n later b a (carry_of w n b a)
  unfolding carry_of
  carry_holds = record {
    behind_cells = ap stream behind_is ∙ push_means w n (stack_of b);
    read = top_read ∙ sym (first_cell k left_over rest_fits);
    ahead_cells = ap stream last_is ∙ sym (other_cells k left_over rest_fits);
    read_in = λ h. rw top_read (top_below k left_over h rest_fits);
    behind_fits = record {
      live = push-live w n b fb.live free;
      runs = subst (RunsFit k) (sym behind_is) (push_fits k w n (stack_of b) some w-in fb.runs);
      sum = omega (arith, more, fb.sum);
    };
    ahead_fits = record {
      live = take-live 1 rest rest_live;
      runs = subst (RunsFit k) (sym last_is) (take_fits k 1 left_over rest_fits);
      sum = omega (arith, fewer, fa.sum);
    };
    behind_sum = more;
    ahead_sum = fewer;
    again = top_is _ _ _ ∙ ap top behind_is ∙ top-push w n (stack_of b);
  }
