-- Every line of the form is accepted by the automaton, with its rows and its symbols. Assumes nothing.
use Rattle.std.specs.Prelude.{◌≡◌, false, ◌⊎◌, List, eqb, get_or, drop, Ok, Result, Some}
use Rattle.std.proofs.Math.Path.{refl, sym, ap}
use Rattle.std.proofs.Common.{◌∙◌, inl, inr}
use Rattle.std.proofs.Math.Bool.{true}
use Prim.Native.Nat.{ℕ, zero, suc, ◌+◌, ◌*◌, ◌≤◌, ◌<◌}
use Rattle.std.proofs.Math.Nat.{mul-le-mul_right}
use native.Mathlib.Omega.{arith}
use borrow.Author.Tests.{eq-eqb, ne_eqb, le-leb, lt-ltb}
use Rattle.std.proofs.Math.ListN.{length}
use Rattle.notation.specs.Choice.{pick, both}
use Rattle.notation.proofs.Facts.Tests.{both_true, pick_true, pick_false}
use Rattle.table_bytes.specs.Model.Entries.{within}
use Rattle.table_text_form.specs.declared.Phase.TheVariants.{Between, Wrote, Moved, Dash, Dashes}
use Rattle.table_text_form.specs.declared.Spot.{Spot}
use Rattle.table_text_form.specs.Form.{spot, may_end, is_full, width_of, row_ends, entry_begins, step, ends, scan, first, form_of}
use Rattle.table_text_form.specs.Line.{Digit, Move, Letter, place, EntryAt, OfForm}
use Rattle.table_text_form.proofs.Facts.Cases.{scan_on, scan_formed}
use Rattle.table_text_form.proofs.Facts.Places.{place_in}

-- ---- one byte

pub begin_dash : (w r c : ℕ) → is_full (spot w r c Between) ≡ false → step (spot w r c Between) 45 ≡ Some (spot w r c Dash)
unfolding step row_ends entry_begins both pick
begin_dash w r c e = rw e

within_holds : (low high x : ℕ) → low ≤ x → x ≤ high → within low high x ≡ true
within_holds low high x h l = both_true (le-leb low x h) (le-leb x high l)

pub begin_digit : (w r c x : ℕ) → is_full (spot w r c Between) ≡ false → Digit x → step (spot w r c Between) x ≡ Some (spot w r c Wrote)
unfolding step row_ends entry_begins both pick
begin_digit w r c x e d =
    let a = d.0 in
    let b = d.1 in
    rw (ne_eqb x 95 (λ (h : x ≡ 95). omega arith), e, ne_eqb x 45 (λ (h : x ≡ 45). omega arith), within_holds 48 57 x a b)

pub move_on : (w r c y : ℕ) → Move y → step (spot w r c Wrote) y ≡ Some (spot w r c Moved)
unfolding step pick
move_on w r c y (inl e) = rw (eq-eqb y 76 e)
move_on w r c y (inr e) = rw (ne_eqb y 76 (λ (h : y ≡ 76). omega arith), eq-eqb y 82 e)

pub letter_on : (w r c z : ℕ) → Letter z → step (spot w r c Moved) z ≡ Some (spot w r (c + 1) Between)
unfolding step pick
letter_on w r c z d = rw (within_holds 65 90 z d.0 d.1)

pub dash_on : (w r c z : ℕ) → z ≡ 45 → step (spot w r c Dash) z ≡ Some (spot w r c Dashes)
unfolding step pick
dash_on w r c z e = rw (eq-eqb z 45 e)

pub dashes_on : (w r c z : ℕ) → z ≡ 45 → step (spot w r c Dashes) z ≡ Some (spot w r (c + 1) Between)
unfolding step pick
dashes_on w r c z e = rw (eq-eqb z 45 e)

module _ (line : List ℕ) where
  abbrev from : Spot → ℕ → Result (ℕ × ℕ) ℕ
  from s i = scan (drop i line) s i

  by_step : (s t : Spot) (i j : ℕ) → i < length line → step s (get_or line i 0) ≡ Some t → i + 1 ≡ j → from s i ≡ from t j
  by_step s t i j h e p = sym (scan_on line s i (from s i) refl (Some t) t h (sym e) refl) ∙ ap (from t) p

  -- ---- one entry

  entry_on : (w r c i : ℕ) → is_full (spot w r c Between) ≡ false → i + 2 < length line → EntryAt line i → from (spot w r c Between) i ≡ from (spot w r (c + 1) Between) (i + 3)
  entry_on w r c i f h (inl d) =
      by_step _ (spot w r c Dash) i (i + 1) (omega arith) (ap (step (spot w r c Between)) d.0 ∙ begin_dash w r c f) refl
      ∙ by_step _ (spot w r c Dashes) (i + 1) (i + 2) (omega arith) (dash_on w r c _ d.1) (omega arith)
      ∙ by_step _ (spot w r (c + 1) Between) (i + 2) (i + 3) (omega arith) (dashes_on w r c _ d.2) (omega arith)
  entry_on w r c i f h (inr d) =
      by_step _ (spot w r c Wrote) i (i + 1) (omega arith) (begin_digit w r c _ f d.0) refl
      ∙ by_step _ (spot w r c Moved) (i + 1) (i + 2) (omega arith) (move_on w r c _ d.1) (omega arith)
      ∙ by_step _ (spot w r (c + 1) Between) (i + 2) (i + 3) (omega arith) (letter_on w r c _ d.2) (omega arith)

  -- ---- one row

  module _ (rows k : ℕ) (f : OfForm rows k line) where
    -- the width that the automaton has in row r
    abbrev Width : (w r : ℕ) → Type 0
    Width w r = ((w ≡ 0) × (r ≡ 0)) ⊎ (w ≡ k)

    open_row : (w r c : ℕ) → Width w r → c < k → is_full (spot w r c Between) ≡ false
    unfolding is_full
    open_row w r c (inl e) h =
        let x = f.symbols_are.1 in
        pick_true (eqb w 0) (eqb c 10) (eqb c w) (eq-eqb w 0 e.0) ∙ ne_eqb c 10 (λ (z : c ≡ 10). omega arith)
    open_row w r c (inr e) h =
        let x = f.symbols_are.0 in
        pick_false (eqb w 0) (eqb c 10) (eqb c w) (ne_eqb w 0 (λ (z : w ≡ 0). omega arith)) ∙ ne_eqb c w (λ (z : c ≡ w). omega arith)

    full_row : (w r : ℕ) → Width w r → may_end (spot w r k Between) ≡ true
    unfolding may_end
    full_row w r (inl e) =
        let x = f.symbols_are.0 in
        pick_true (eqb w 0) _ (eqb k w) (eq-eqb w 0 e.0) ∙ le-leb _ k (omega arith)
    full_row w r (inr e) =
        let x = f.symbols_are.0 in
        pick_false (eqb w 0) _ (eqb k w) (ne_eqb w 0 (λ (z : w ≡ 0). omega arith)) ∙ eq-eqb k w (sym e)

    width_is : (w r : ℕ) → Width w r → width_of (spot w r k Between) ≡ k
    width_is w r (inl e) = pick_true (eqb w 0) k w (eq-eqb w 0 e.0)
    width_is w r (inr e) = let x = f.symbols_are.0 in pick_false (eqb w 0) k w (ne_eqb w 0 (λ (z : w ≡ 0). omega arith)) ∙ e

    row_on : (n w r c : ℕ) → Width w r → r < rows → c + n ≡ k → from (spot w r c Between) (place k r c) ≡ from (spot w r k Between) (place k r k)
    row_on zero w r c v h e = let p : c ≡ k = omega arith in ap (λ (x : ℕ). from (spot w r x Between) (place k r x)) p
    row_on (suc n) w r c v h e =
        let l : c < k = omega arith in
        let p : place k r c + 3 ≡ place k r (c + 1) = omega arith in
        entry_on w r c (place k r c) (open_row w r c v l) (place_in k r c l rows (length line) h f.size) (f.entries r c h l)
        ∙ ap (from (spot w r (c + 1) Between)) p
        ∙ row_on n w r (c + 1) v h (omega arith)

    -- ---- all rows

    bar_on : (w r : ℕ) → Width w r → r + 1 < rows → step (spot w r k Between) 95 ≡ Some (spot k (r + 1) 0 Between)
    unfolding step row_ends
    bar_on w r v h =
        pick_true (row_ends (spot w r k Between) 95) (Some (spot (width_of (spot w r k Between)) (r + 1) 0 Between)) (entry_begins (spot w r k Between) 95) ended
        ∙ ap (λ (x : ℕ). Some (spot x (r + 1) 0 Between)) (width_is w r v)
      where
        ended : row_ends (spot w r k Between) 95 ≡ true
        ended = let x = f.rows_are.1 in both_true (eq-eqb 95 95 refl) (both_true (full_row w r v) (lt-ltb r _ (omega arith)))

    rows_on_holds : (n w r : ℕ) → Width w r → r + n + 1 ≡ rows → from (spot w r 0 Between) (place k r 0) ≡ Ok (rows, k)
    unfolding ends
    rows_on_holds zero w r v e =
        let p : r + 1 ≡ rows = omega arith in
        let q : (r + 1) * (3 * k + 1) ≡ rows * (3 * k + 1) = ap (λ (x : ℕ). x * (3 * k + 1)) p in
        let s = f.size in
        let at : place k r k ≡ length line = omega arith in
        row_on k w r 0 v (omega arith) (omega arith)
        ∙ sym (scan_formed line (spot w r k Between) (place k r k) (from (spot w r k Between) (place k r k)) refl (may_end (spot w r k Between)) k (omega arith) (omega arith) refl (full_row w r v) (sym (width_is w r v)))
        ∙ ap (λ (x : ℕ). Ok (x, k)) p
    rows_on_holds (suc n) w r v e =
        let h : r + 1 < rows = omega arith in
        let l : (r + 1 + 1) * (3 * k + 1) ≤ rows * (3 * k + 1) = mul-le-mul_right {m = r + 1 + 1} {n = rows} (3 * k + 1) (omega arith) in
        let s = f.size in
        let inside : place k r k < length line = omega arith in
        row_on k w r 0 v (omega arith) (omega arith)
        ∙ by_step (spot w r k Between) (spot k (r + 1) 0 Between) (place k r k) (place k (r + 1) 0) inside (ap (step (spot w r k Between)) (f.parted r h) ∙ bar_on w r v h) (omega arith)
        ∙ rows_on_holds n k (r + 1) (inr refl) (omega arith)

    pub of_form_formed : form_of line ≡ Ok (rows, k)
    unfolding form_of
    of_form_formed = by rows f.rows_are.0 refl
      where
        by : (n : ℕ) → 1 ≤ n → n ≡ rows → scan line first 0 ≡ Ok (rows, k)
        by zero h e = absurd (omega arith)
        by (suc n) h e = let p : 0 ≡ place k 0 0 = omega arith in ap (from first) p ∙ rows_on_holds n 0 0 (inl (refl, refl)) (omega arith)
