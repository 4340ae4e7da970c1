-- Sums of lengths, and what the operations of one side keep: the number of places, live runs within them, and how many cells there are. Assumes nothing.
use Rattle.std.specs.Prelude.{◌≡◌, refl, ◌⊎◌, false, List, ℕ, zero, suc, ◌+◌, ◌-◌, ◌≤◌, ◌<◌, min, eqb, length, get_or, set}
use Rattle.std.proofs.Common.{sym, ◌∙◌, ap, ap₂, inl, inr, arith, ne_eqb, eqb-true, length-set, get_or-set_same, get_or-set_other}
use Rattle.std.proofs.lemmas.Bool.{eqb-false}
use Rattle.notation.specs.Choice.{pick}
use Rattle.notation.proofs.Facts.Tests.{by_test, pick_cases, pick_true, pick_false}
use Rattle.rle_stack.specs.Model.{Side, side, places_of, symbol_under, top_of, ahead_of, grown_of, push_of, lacks, take_of, sum_of, cells_of}
use Rattle.rle_stack.specs.Invariants.{SideOk, SameLengths}
use Rattle.rle_stack.proofs.Facts.SideCases.{has-place}

-- ---- sums

-- a change of a length at or past n does not change the sum of the first n
sum_past : (n j m : ℕ) (ls : List ℕ) → n ≤ j → sum_of (set ls j m) n ≡ sum_of ls n
unfolding sum_of
sum_past zero j m ls h = refl
sum_past (suc n) j m ls h = ap₂ (λ (a b : ℕ). a + b) (sum_past n j m ls (omega arith)) (get_or-set_other ls j n m 0 (omega arith))

sum_top : (n m : ℕ) (ls : List ℕ) → n < length ls → sum_of (set ls n m) (suc n) ≡ sum_of ls n + m
unfolding sum_of
sum_top n m ls h = ap₂ (λ (a b : ℕ). a + b) (sum_past n n m ls (omega arith)) (get_or-set_same ls n m 0 h)

sum_suc : (n : ℕ) (ls : List ℕ) → sum_of ls (suc n) ≡ sum_of ls n + get_or ls n 0
unfolding sum_of
sum_suc n ls = refl

sum_more : (n d : ℕ) (ls : List ℕ) → sum_of ls n ≤ sum_of ls (n + d)
sum_more n zero ls = let e : n + 0 ≡ n = omega arith in omega (arith, ap (sum_of ls) e)
sum_more n (suc d) ls =
    let e : n + suc d ≡ suc (n + d) = omega arith in
    omega (arith, ap (sum_of ls) e, sum_suc (n + d) ls, sum_more n d ls)

-- the sum of the first i lengths is at most that of the first n
pub sum_part : (ls : List ℕ) (i n : ℕ) → i ≤ n → sum_of ls i ≤ sum_of ls n
sum_part ls i n h =
    let e : i + (n - i) ≡ n = omega arith in
    omega (arith, sum_more i (n - i) ls, ap (sum_of ls) e)

-- the top run's length is part of the sum, in the code's form: index n − 1 where n is not 0
pub sum_last : (n : ℕ) (ls : List ℕ) → (n ≡ 0 → ⊥) → sum_of ls n ≡ sum_of ls (n - 1) + get_or ls (n - 1) 0
sum_last zero ls h = absurd (h refl)
sum_last (suc n) ls h =
    let e : suc n - 1 ≡ n = omega arith in
    sum_suc n ls ∙ sym (ap₂ (λ (a b : ℕ). a + b) (ap (sum_of ls) e) (ap (λ (i : ℕ). get_or ls i 0) e))

sum_reset : (n m : ℕ) (ls : List ℕ) → (n ≡ 0 → ⊥) → n ≤ length ls → sum_of (set ls (n - 1) m) n ≡ sum_of ls (n - 1) + m
sum_reset zero m ls z h = absurd (z refl)
sum_reset (suc n) m ls z h =
    let e : suc n - 1 ≡ n = omega arith in
    ap (λ (i : ℕ). sum_of (set ls i m) (suc n)) e ∙ sum_top n m ls h ∙ sym (ap (λ (i : ℕ). sum_of ls i + m) e)

-- ---- the loop that adds the lengths up

pub sum_over : (i n most sum : ℕ) (ls : List ℕ) → sum ≡ sum_of ls i → i < n → sum ≤ most → most - sum < get_or ls i 0 → most + 1 ≡ min (sum_of ls n) (most + 1)
sum_over i n most sum ls e h b o = omega (arith, sum_part ls (suc i) n (omega arith), sum_suc i ls)

pub sum_next : (i sum : ℕ) (ls : List ℕ) → sum ≡ sum_of ls i → sum + get_or ls i 0 ≡ sum_of ls (i + 1)
sum_next i sum ls e =
    let d : i + 1 ≡ suc i = omega arith in
    omega (arith, ap (sum_of ls) d, sum_suc i ls)

pub sum_none : (ls : List ℕ) → 0 ≡ sum_of ls 0
unfolding sum_of
sum_none ls = refl

pub sum_all : (i n most sum : ℕ) (ls : List ℕ) → sum ≡ sum_of ls i → sum ≤ most → i ≤ n → n ≤ i → sum ≡ min (sum_of ls n) (most + 1)
sum_all i n most sum ls e b l h =
    let d : i ≡ n = omega arith in
    omega (arith, ap (sum_of ls) d)

-- ---- the run ahead is part of a side

pub ahead_within : (a : ℕ) (x : Side) → ahead_of a x ≤ cells_of x
unfolding ahead_of
ahead_within a x =
    pick_cases (eqb x.count 0) 0 _ (λ (r : ℕ). r ≤ cells_of x) (λ e. omega arith)
    (λ e.
    pick_cases (eqb (get_or x.symbols (x.count - 1) 0) a) _ 0 (λ (r : ℕ). r ≤ cells_of x)
    (λ f. omega (arith, sum_last x.count x.lengths (eqb-false x.count 0 e)))
    (λ f. omega arith))

-- ---- sides of the same lengths

pub same_then : {x y z : Side} → SameLengths x y → SameLengths y z → SameLengths x z
same_then a b = record { symbols = b.symbols ∙ a.symbols; lengths = b.lengths ∙ a.lengths }

pub same-places : {x y : Side} → SameLengths x y → places_of y.symbols y.lengths ≡ places_of x.symbols x.lengths
same-places s i = min (s.symbols i) (s.lengths i)

-- ---- a push of n cells

grown_ok : (p b n : ℕ) (x : Side) → SideOk p b x → (x.count ≡ 0 → ⊥)
    → SideOk p (b + n) (side x.symbols (set x.lengths (x.count - 1) (get_or x.lengths (x.count - 1) 0 + n)) x.count)
grown_ok p b n x h z = record {
  live = h.live;
  symbols_in = h.symbols_in;
  lengths_in = omega (arith, h.lengths_in, length-set x.lengths (x.count - 1) (get_or x.lengths (x.count - 1) 0 + n));
  cells_in = omega (arith, sum_reset x.count (get_or x.lengths (x.count - 1) 0 + n) x.lengths z (omega (arith, h.live, h.lengths_in)), sum_last x.count x.lengths z, h.cells_in);
}

added_ok : (p b s n : ℕ) (x : Side) → SideOk p b x → x.count < p
    → SideOk p (b + n) (side (set x.symbols x.count s) (set x.lengths x.count n) (x.count + 1))
added_ok p b s n x h q =
    let e : x.count + 1 ≡ suc x.count = omega arith in
    record {
      live = omega arith;
      symbols_in = omega (arith, h.symbols_in, length-set x.symbols x.count s);
      lengths_in = omega (arith, h.lengths_in, length-set x.lengths x.count n);
      cells_in = omega (arith, ap (sum_of (set x.lengths x.count n)) e, sum_top x.count n x.lengths (omega (arith, h.lengths_in)), h.cells_in);
    }

more : (p b n : ℕ) (x : Side) → SideOk p b x → SideOk p (b + n) x
more p b n x h = record { live = h.live; symbols_in = h.symbols_in; lengths_in = h.lengths_in; cells_in = omega (arith, h.cells_in) }

pub push_ok : (p b s n : ℕ) (x : Side) → SideOk p b x → lacks p s x ≡ false → SideOk p (b + n) (push_of s n x)
unfolding push_of grown_of
push_ok p b s n x h l =
    pick_cases (eqb s (top_of x)) _ _ (SideOk p (b + n))
    (λ e. pick_cases (eqb x.count 0) _ _ (SideOk p (b + n)) (λ z. more p b n x h) (λ z. grown_ok p b n x h (eqb-false x.count 0 z)))
    (λ e. added_ok p b s n x h (has-place p s x.count (top_of x) x.symbols x.lengths refl (eqb-false s (top_of x) e) l))

pub push-same : (s n : ℕ) (x : Side) → SameLengths x (push_of s n x)
unfolding push_of grown_of
push-same s n x =
    pick_cases (eqb s (top_of x)) _ _ (SameLengths x)
    (λ e.
    pick_cases (eqb x.count 0) _ _ (SameLengths x) (λ z. record { symbols = refl; lengths = refl })
    (λ z. record { symbols = refl; lengths = length-set x.lengths (x.count - 1) (get_or x.lengths (x.count - 1) 0 + n) }))
    (λ e. record { symbols = length-set x.symbols x.count s; lengths = length-set x.lengths x.count n })

-- a push adds a run where another symbol was on top
pub push_count : (s n : ℕ) (x : Side) → (push_of s n x).count ≡ pick (eqb s (top_of x)) x.count (x.count + 1)
unfolding push_of grown_of
push_count s n x =
    by_test (eqb s (top_of x))
    (λ e.
    ap (λ (y : Side). y.count) (pick_true (eqb s (top_of x)) _ _ e) ∙ pick_cases (eqb x.count 0) _ _ (λ (y : Side). y.count ≡ x.count) (λ z. refl) (λ z. refl) ∙ sym (pick_true (eqb s (top_of x)) x.count (x.count + 1) e))
    (λ e. ap (λ (y : Side). y.count) (pick_false (eqb s (top_of x)) _ _ e) ∙ sym (pick_false (eqb s (top_of x)) x.count (x.count + 1) e))

under_new : (ss : List ℕ) (n s : ℕ) → n < length ss → symbol_under (set ss n s) (n + 1) ≡ s
unfolding symbol_under
under_new ss n s h =
    let e : n + 1 - 1 ≡ n = omega arith in
    pick_false (eqb (n + 1) 0) 0 _ (ne_eqb (n + 1) 0 (λ z. omega arith)) ∙ ap (λ (j : ℕ). get_or (set ss n s) j 0) e ∙ get_or-set_same ss n s 0 h

-- the pushed symbol is on top
pub push-top : (p b s n : ℕ) (x : Side) → SideOk p b x → lacks p s x ≡ false → top_of (push_of s n x) ≡ s
unfolding push_of grown_of
push-top p b s n x h l =
    pick_cases (eqb s (top_of x)) _ _ (λ (y : Side). top_of y ≡ s)
    (λ e.
    pick_cases (eqb x.count 0) _ _ (λ (y : Side). top_of y ≡ s) (λ z. sym (eqb-true s (top_of x) e)) (λ z. sym (eqb-true s (top_of x) e)))
    (λ e. added (has-place p s x.count (top_of x) x.symbols x.lengths refl (eqb-false s (top_of x) e) l))
  where
    added : x.count < p → symbol_under (set x.symbols x.count s) (x.count + 1) ≡ s
    added q = under_new x.symbols x.count s (omega (arith, q, h.symbols_in))

-- ---- n cells taken

resized_ok : (p b m : ℕ) (x : Side) → SideOk p b x → (x.count ≡ 0 → ⊥) → m ≤ get_or x.lengths (x.count - 1) 0
    → (c : ℕ) → (c ≡ x.count) ⊎ (c ≡ x.count - 1) → SideOk p b (side x.symbols (set x.lengths (x.count - 1) m) c)
resized_ok p b m x h z l c w = record {
  live = omega (arith, h.live, small w);
  symbols_in = h.symbols_in;
  lengths_in = omega (arith, h.lengths_in, length-set x.lengths (x.count - 1) m);
  cells_in = omega (arith, fewer w, sum_last x.count x.lengths z, h.cells_in);
}
  where
    small : (c ≡ x.count) ⊎ (c ≡ x.count - 1) → c ≤ x.count
    small (inl e) = omega arith
    small (inr e) = omega arith

    fewer : (c ≡ x.count) ⊎ (c ≡ x.count - 1) → sum_of (set x.lengths (x.count - 1) m) c ≤ sum_of x.lengths (x.count - 1) + get_or x.lengths (x.count - 1) 0
    fewer (inl e) = omega (arith, ap (sum_of (set x.lengths (x.count - 1) m)) e, sum_reset x.count m x.lengths z (omega (arith, h.live, h.lengths_in)))
    fewer (inr e) = omega (arith, ap (sum_of (set x.lengths (x.count - 1) m)) e, sum_past (x.count - 1) (x.count - 1) m x.lengths (omega arith))

pub take_ok : (p b n : ℕ) (x : Side) → SideOk p b x → SideOk p b (take_of n x)
unfolding take_of
take_ok p b n x h =
    pick_cases (eqb x.count 0) _ _ (SideOk p b) (λ e. h)
    (λ e.
    pick_cases (eqb (get_or x.lengths (x.count - 1) 0 - n) 0) (x.count - 1) x.count
    (λ (c : ℕ). SideOk p b (side x.symbols (set x.lengths (x.count - 1) (get_or x.lengths (x.count - 1) 0 - n)) c))
    (λ z. resized_ok p b (get_or x.lengths (x.count - 1) 0 - n) x h (eqb-false x.count 0 e) (omega arith) (x.count - 1) (inr refl))
    (λ z. resized_ok p b (get_or x.lengths (x.count - 1) 0 - n) x h (eqb-false x.count 0 e) (omega arith) x.count (inl refl)))

pub take_same : (n : ℕ) (x : Side) → SameLengths x (take_of n x)
unfolding take_of
take_same n x =
    pick_cases (eqb x.count 0) _ _ (SameLengths x) (λ e. record { symbols = refl; lengths = refl })
    (λ e. record { symbols = refl; lengths = length-set x.lengths (x.count - 1) (get_or x.lengths (x.count - 1) 0 - n) })

-- a take adds no run
fewer : (n : ℕ) (x : Side) → (take_of n x).count ≤ x.count
unfolding take_of
fewer n x =
    pick_cases (eqb x.count 0) _ _ (λ (z : Side). z.count ≤ x.count) (λ e. omega arith)
    (λ e. pick_cases (eqb (get_or x.lengths (x.count - 1) 0 - n) 0) (x.count - 1) x.count (λ (c : ℕ). c ≤ x.count) (λ z. omega arith) (λ z. omega arith))

pub take-fewer : (n : ℕ) (x y : Side) → y ≡ take_of n x → y.count ≤ x.count
take-fewer n x y e = omega (arith, ap (λ (z : Side). z.count) e, fewer n x)
