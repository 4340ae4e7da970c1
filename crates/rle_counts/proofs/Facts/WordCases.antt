-- The word on a fresh engine's right side: the loops that count and push its runs, and the check. Assumes nothing.
use Rattle.std.specs.Prelude.{◌≡◌, refl, Bool, true, List, ℕ, zero, suc, ◌+◌, ◌-◌, ◌≤◌, ◌<◌, eqb, leb, length, get_or, Err, Ok, Result, ⊤}
use Rattle.std.proofs.Common.{sym, ◌∙◌, ap, subst, arith}
use Rattle.std.proofs.Math.Bool.{false}
use borrow.Author.Tests.{le-leb, lt-leb, eq-eqb, ne_eqb, eqb-true}
use Rattle.notation.specs.Choice.{pick, both}
use Rattle.notation.proofs.Facts.Tests.{by_test, pick_cases, pick_true, pick_false}
use Rattle.notation.specs.Limits.{word_most, runs_most}
use Rattle.outcome.specs.declared.Refusal.{Refusal}
use Rattle.outcome.specs.declared.Refusal.TheVariants as Why
use Rattle.machine.specs.declared.Machine.{Machine}
use Rattle.machine.specs.Model.Check.{table_check}
use Rattle.machine.specs.Model.Word.{word_check}
use Rattle.rle_stack.specs.Model.{Side, side, places_of, symbol_under, top_of, push_of, lacks, sum_of}
use Rattle.rle_stack.specs.Invariants.{SideOk, SameLengths}
use Rattle.rle_stack.proofs.Facts.Sides.{same_then, same-places, push_ok, push-same, push_count, push-top}
use Rattle.rle_counts.specs.Model.Words.{more_of, laid_of, word_of, runs_of, fresh_sizes, fresh_check}

-- ---- counting

runs-one : (w : List ℕ) (n top count : ℕ) → runs_of w (suc n) top count ≡ pick (eqb (get_or w (suc n) 0) top) (runs_of w n top count) (runs_of w n (get_or w (suc n) 0) (count + 1))
unfolding runs_of
runs-one w n top count = refl

runs_suc : (w : List ℕ) (n top count : ℕ) → runs_of w (suc n) top count ≡ runs_of w n (get_or w (suc n) 0) (more_of count top (get_or w (suc n) 0))
runs_suc w n top count = by_test (eqb (get_or w (suc n) 0) top) yes no
  where
    yes : eqb (get_or w (suc n) 0) top ≡ true → runs_of w (suc n) top count ≡ runs_of w n (get_or w (suc n) 0) (more_of count top (get_or w (suc n) 0))
    yes e = runs-one w n top count ∙ pick_true _ _ _ e ∙ (λ i. runs_of w n (sym (eqb-true (get_or w (suc n) 0) top e) i) (sym (pick_true (eqb (get_or w (suc n) 0) top) count (count + 1) e) i))

    no : eqb (get_or w (suc n) 0) top ≡ false → runs_of w (suc n) top count ≡ runs_of w n (get_or w (suc n) 0) (more_of count top (get_or w (suc n) 0))
    no e = runs-one w n top count ∙ pick_false _ _ _ e ∙ ap (runs_of w n (get_or w (suc n) 0)) (sym (pick_false (eqb (get_or w (suc n) 0) top) count (count + 1) e))

-- in the code's form: i symbols are left, of which the first is not pushed
runs_turn : (w : List ℕ) (i top count : ℕ) → 1 < i → runs_of w (i - 1) top count ≡ runs_of w (i - 1 - 1) (get_or w (i - 1) 0) (more_of count top (get_or w (i - 1) 0))
runs_turn w i top count h =
    subst (λ (j : ℕ). runs_of w j top count ≡ runs_of w (j - 1) (get_or w j 0) (more_of count top (get_or w j 0))) (sym e)
    (runs_suc w (i - 2) top count ∙ ap (λ (j : ℕ). runs_of w j (get_or w (suc (i - 2)) 0) (more_of count top (get_or w (suc (i - 2)) 0))) f)
  where
    e : i - 1 ≡ suc (i - 2)
    e = omega arith

    f : i - 2 ≡ suc (i - 2) - 1
    f = omega arith

pub runs_next : (w : List ℕ) (i top count count' x : ℕ) → runs_of w (i - 1) top count ≡ x → 1 < i → count' ≡ more_of count top (get_or w (i - 1) 0)
    → runs_of w (i - 1 - 1) (get_or w (i - 1) 0) count' ≡ x
runs_next w i top count count' x e h q = ap (runs_of w (i - 1 - 1) (get_or w (i - 1) 0)) q ∙ sym (runs_turn w i top count h) ∙ e

pub runs-end : (w : List ℕ) (i top count x : ℕ) → runs_of w (i - 1) top count ≡ x → i ≤ 1 → count ≡ x
unfolding runs_of
runs-end w i top count x e h =
    let z : i - 1 ≡ 0 = omega arith in
    sym (ap (λ (j : ℕ). runs_of w j top count) z) ∙ e

runs_none : (w : List ℕ) (top count : ℕ) → runs_of w 0 top count ≡ count
unfolding runs_of
runs_none w top count = refl

-- the runs never become fewer
runs_grow : (w : List ℕ) (n top count : ℕ) → count ≤ runs_of w n top count
runs_grow w zero top count = omega (arith, runs_none w top count)
runs_grow w (suc n) top count =
    omega (arith, runs_suc w n top count, runs_grow w n (get_or w (suc n) 0) (more_of count top (get_or w (suc n) 0)), pick_cases (eqb (get_or w (suc n) 0) top) count (count + 1) (λ (c : ℕ). count ≤ c) (λ y. omega arith) (λ n. omega arith))

-- ---- pushing

laid_none : (w : List ℕ) (x : Side) → laid_of w 0 x ≡ x
unfolding laid_of
laid_none w x = refl

laid_suc : (w : List ℕ) (n : ℕ) (x : Side) → laid_of w n (push_of (get_or w (suc n) 0) 1 x) ≡ laid_of w (suc n) x
unfolding laid_of
laid_suc w n x = refl

laid_turn : (w : List ℕ) (i : ℕ) (x : Side) → 1 < i → laid_of w (i - 1 - 1) (push_of (get_or w (i - 1) 0) 1 x) ≡ laid_of w (i - 1) x
laid_turn w i x h =
    subst (λ (j : ℕ). laid_of w (j - 1) (push_of (get_or w j 0) 1 x) ≡ laid_of w j x) (sym e)
    (ap (λ (j : ℕ). laid_of w j (push_of (get_or w (suc (i - 2)) 0) 1 x)) f ∙ laid_suc w (i - 2) x)
  where
    e : i - 1 ≡ suc (i - 2)
    e = omega arith

    f : suc (i - 2) - 1 ≡ i - 2
    f = omega arith

-- i symbols of the word are left, the first of which is not pushed
pub record Laying (w : List ℕ) (p : ℕ) (x₀ x : Side) (i : ℕ) : Type 0 where
  pub within : i ≤ length w
  pub ok : SideOk p (length w - i) x
  pub places : p ≡ places_of x.symbols x.lengths
  pub runs : runs_of w (i - 1) (top_of x) x.count ≤ p
  pub sizes : SameLengths x₀ x
  pub laid : laid_of w (i - 1) x ≡ word_of w x₀

pub laying_start : (w ss ls : List ℕ) → runs_of w (length w - 1) 0 0 ≤ places_of ss ls → Laying w (places_of ss ls) (side ss ls 0) (side ss ls 0) (length w)
unfolding symbol_under sum_of pick
laying_start w ss ls h = record {
  within = omega arith;
  ok = record { live = omega arith; symbols_in = omega arith; lengths_in = omega arith; cells_in = omega arith };
  places = refl;
  runs = h;
  sizes = record { symbols = refl; lengths = refl };
  laid = refl;
}

module _ (w : List ℕ) (p : ℕ) (x₀ x : Side) (i : ℕ) (g : Laying w p x₀ x i) (h : 1 < i) where
  -- the push has a place
  pub laying_place : lacks p (get_or w (i - 1) 0) x ≡ false
  unfolding lacks
  laying_place =
      pick_cases (eqb (get_or w (i - 1) 0) (top_of x)) false (leb p x.count) (λ (b : Bool). b ≡ false) (λ e. refl)
      (λ e. lt-leb p x.count (omega (arith, g.runs, runs_turn w i (top_of x) x.count h, runs_grow w (i - 1 - 1) (get_or w (i - 1) 0) (more_of x.count (top_of x) (get_or w (i - 1) 0)), pick_false (eqb (get_or w (i - 1) 0) (top_of x)) x.count (x.count + 1) e)))

  pub laying_on : (y : Side) → y ≡ push_of (get_or w (i - 1) 0) 1 x → Laying w p x₀ y (i - 1)
  laying_on y e = subst (λ (y : Side). Laying w p x₀ y (i - 1)) (sym e) pushed
    where
      same : SameLengths x (push_of (get_or w (i - 1) 0) 1 x)
      same = push-same (get_or w (i - 1) 0) 1 x

      less : length w - i + 1 ≡ length w - (i - 1)
      less = omega (arith, g.within)

      pushed : Laying w p x₀ (push_of (get_or w (i - 1) 0) 1 x) (i - 1)
      pushed = record {
        within = omega (arith, g.within);
        ok = subst (λ (b : ℕ). SideOk p b (push_of (get_or w (i - 1) 0) 1 x)) less (push_ok p (length w - i) (get_or w (i - 1) 0) 1 x g.ok laying_place);
        places = g.places ∙ sym (same-places same);
        runs = omega (arith, g.runs, runs_turn w i (top_of x) x.count h, again);
        sizes = same_then g.sizes same;
        laid = laid_turn w i x h ∙ g.laid;
      }
        where
          again : runs_of w (i - 1 - 1) (top_of (push_of (get_or w (i - 1) 0) 1 x)) (push_of (get_or w (i - 1) 0) 1 x).count
              ≡ runs_of w (i - 1 - 1) (get_or w (i - 1) 0) (more_of x.count (top_of x) (get_or w (i - 1) 0))
          again j = runs_of w (i - 1 - 1) (push-top p (length w - i) (get_or w (i - 1) 0) 1 x g.ok laying_place j) (push_count (get_or w (i - 1) 0) 1 x j)

pub laying_end : (w : List ℕ) (p : ℕ) (x₀ x : Side) (i : ℕ) → Laying w p x₀ x i → i ≤ 1 → x ≡ word_of w x₀
laying_end w p x₀ x i g h =
    let z : i - 1 ≡ 0 = omega arith in
    sym (laid_none w x) ∙ sym (ap (λ (j : ℕ). laid_of w j x) z) ∙ g.laid

-- ---- the check

module _ (w : List ℕ) (l r : ℕ) where
  pub sizes_left : runs_most < l → false ≡ fresh_sizes w l r
  unfolding fresh_sizes both
  sizes_left h = rw (lt-leb l runs_most h)

  pub sizes_right : l ≤ runs_most → runs_most < r → false ≡ fresh_sizes w l r
  unfolding fresh_sizes both
  sizes_right h k = rw (le-leb l runs_most h, lt-leb r runs_most k)

  pub sizes_runs : l ≤ word_most → r ≤ word_most → (n : ℕ) → n ≡ runs_of w (length w - 1) 0 0 → leb n r ≡ fresh_sizes w l r
  unfolding fresh_sizes both
  sizes_runs h k n e = rw (le-leb l runs_most h, le-leb r runs_most k, e)

module _ (m : Machine) (s w : List ℕ) (l r : ℕ) (c : Result ⊤ Refusal) (checked : c ≡ table_check m s) where
  pub fresh_table : (why : Refusal) → c ≡ Err why → Err why ≡ fresh_check m s w l r
  unfolding fresh_check
  fresh_table why e = rw (← checked, e)

  module _ (passed : c ≡ Ok tt) where
    pub fresh_tapes : (m.tapes ≡ 1 → ⊥) → Err Why.SeveralTapes ≡ fresh_check m s w l r
    unfolding fresh_check pick
    fresh_tapes h = rw (← checked, passed, ne_eqb m.tapes 1 h)

    module _ (one : m.tapes ≡ 1) (d : Result ⊤ Refusal) (spelled : d ≡ word_check m.symbols w) where
      pub fresh_word : (why : Refusal) → d ≡ Err why → Err why ≡ fresh_check m s w l r
      unfolding fresh_check pick
      fresh_word why e = rw (← checked, passed, eq-eqb m.tapes 1 one, ← spelled, e)

      module _ (good : d ≡ Ok tt) (b : Bool) (sized : b ≡ fresh_sizes w l r) where
        pub fresh_small : b ≡ false → Err Why.BufferSize ≡ fresh_check m s w l r
        unfolding fresh_check pick
        fresh_small e = rw (← checked, passed, eq-eqb m.tapes 1 one, ← spelled, good, ← sized, e)

        pub fresh_passed : b ≡ true → (Ok tt) ≡ fresh_check m s w l r
        unfolding fresh_check pick
        fresh_passed e = rw (← checked, passed, eq-eqb m.tapes 1 one, ← spelled, good, ← sized, e)
