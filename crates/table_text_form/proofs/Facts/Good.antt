-- The spots that a line reaches: each has at most 24 whole rows, all of one width from 2 to 10. Assumes nothing.
use Rattle.std.specs.Prelude.{◌≡◌, refl, Bool, true, false, ◌⊎◌, ℕ, ◌+◌, ◌≤◌, ◌<◌, eqb, None, Option, Some}
use Rattle.std.proofs.Common.{sym, subst, ◌∙◌, inl, inr, arith, eq-eqb, ne_eqb, eqb-true, leb-true, ltb-true}
use Rattle.std.proofs.lemmas.Bool.{eqb-false}
use Rattle.notation.specs.Choice.{pick}
use Rattle.notation.proofs.Facts.Tests.{by_test, pick_true, pick_false, both_split}
use Rattle.table_bytes.specs.Model.Entries.{within}
use Rattle.table_text_form.specs.declared.Phase.{Phase}
use Rattle.table_text_form.specs.declared.Phase.TheVariants.{Between, Wrote, Moved, Dash, Dashes}
use Rattle.table_text_form.specs.declared.Spot.{Spot}
use Rattle.table_text_form.specs.Form.{spot, is_move, may_end, is_full, width_of, on_if, row_ends, entry_begins, step_between, step, first}

-- 1 inside an entry
abbrev pub mid : Phase → ℕ
mid Between = 0
mid Wrote = 1
mid Moved = 1
mid Dash = 1
mid Dashes = 1

unfoldable pub Good : Spot → Type 0
Good s =
    ((s.width ≡ 0) × (s.rows ≡ 0) × (mid s.phase + s.col ≤ 10))
    ⊎ ((2 ≤ s.width) × (s.width ≤ 10) × (s.rows ≤ 24) × (mid s.phase + s.col ≤ s.width))

pub good_first : Good first
unfolding Good
good_first = inl (refl, refl, omega arith)

pub good_rows : (s : Spot) → Good s → (s.rows ≤ 24) × (s.col ≤ 10)
unfolding Good
good_rows s (inl g) = (omega (arith, g.1), omega (arith, g.2))
good_rows s (inr g) = (g.2, omega (arith, g.1, g.3))

-- ---- answers of one byte

pub on_is : (x : Option Spot) (s t : Spot) → x ≡ Some s → x ≡ Some t → s ≡ t
on_is x s t a b = cc

pub stop_is : (x : Option Spot) (t : Spot) → x ≡ None → ¬ (x ≡ Some t)
stop_is x t a b = let z : ◌≡◌ {A = ℕ} 0 1 = cc in omega arith

-- a test that led somewhere was passed
pub tested : (b : Bool) (s t : Spot) → on_if b s ≡ Some t → (b ≡ true) × (s ≡ t)
unfolding pick
tested true s t e = (refl, cc)
tested false s t e = let z : ◌≡◌ {A = ℕ} 0 1 = cc in absurd (omega arith)

-- ---- a byte leads from a good spot to a good spot

pub whole : (w r c : ℕ) (p : Phase) → mid p ≡ 1 → Good (spot w r c p) → Good (spot w r (c + 1) Between)
unfolding Good
whole w r c p h (inl g) = inl (g.0, g.1, omega (arith, g.2))
whole w r c p h (inr g) = inr (g.0, g.1, g.2, omega (arith, g.3))

same_row : (w r c : ℕ) (p p' : Phase) → mid p ≡ mid p' → Good (spot w r c p) → Good (spot w r c p')
unfolding Good
same_row w r c p p' e (inl g) = inl (g.0, g.1, omega (arith, g.2))
same_row w r c p p' e (inr g) = inr (g.0, g.1, g.2, omega (arith, g.3))

pub begins : (w r c : ℕ) → Good (spot w r c Between) → is_full (spot w r c Between) ≡ false → (p : Phase) → mid p ≡ 1 → Good (spot w r c p)
unfolding Good is_full
begins w r c (inl g) f p e =
    let t : eqb w 0 ≡ true = eq-eqb w 0 g.0 in
    let n : ¬ (c ≡ 10) = eqb-false c 10 (sym (pick_true _ _ _ t) ∙ f) in
    inl (g.0, g.1, omega (arith, g.2))
begins w r c (inr g) f p e =
    let t : eqb w 0 ≡ false = ne_eqb w 0 (λ x. omega (arith, g.0)) in
    let n : ¬ (c ≡ w) = eqb-false c w (sym (pick_false _ _ _ t) ∙ f) in
    inr (g.0, g.1, g.2, omega (arith, g.3))

-- the end of a row: its width
pub row_width : (w r c : ℕ) → Good (spot w r c Between) → may_end (spot w r c Between) ≡ true
    → (2 ≤ width_of (spot w r c Between)) × (width_of (spot w r c Between) ≤ 10) × (width_of (spot w r c Between) ≡ c) × (w ≡ 0 ⊎ w ≡ c)
unfolding Good may_end
row_width w r c (inl g) f =
    let t : eqb w 0 ≡ true = eq-eqb w 0 g.0 in
    let v : pick (eqb w 0) c w ≡ c = pick_true (eqb w 0) c w t in
    let n : 2 ≤ c = leb-true 2 c (sym (pick_true _ _ _ t) ∙ f) in
    (omega arith, omega (arith, g.2), v, inl g.0)
row_width w r c (inr g) f =
    let t : eqb w 0 ≡ false = ne_eqb w 0 (λ x. omega (arith, g.0)) in
    let v : pick (eqb w 0) c w ≡ w = pick_false (eqb w 0) c w t in
    let n : c ≡ w = eqb-true c w (sym (pick_false _ _ _ t) ∙ f) in
    (omega (arith, g.0), omega (arith, g.1), omega arith, inr (sym n))

pub new_row : (w r c : ℕ) → Good (spot w r c Between) → may_end (spot w r c Between) ≡ true → r < 24 → Good (spot (width_of (spot w r c Between)) (r + 1) 0 Between)
unfolding Good
new_row w r c g f h = let n = row_width w r c g f in inr (n.0, n.1, omega arith, omega (arith, n.0))

begun : (w r c b : ℕ) → Good (spot w r c Between) → (t : Spot) → entry_begins (spot w r c Between) b ≡ Some t → Good t
unfolding entry_begins
begun w r c b g t e = by_test (is_full (spot w r c Between))
    (λ f. absurd (stop_is (entry_begins (spot w r c Between) b) t (pick_true (is_full (spot w r c Between)) None rest f) e))
    (λ f.
    let e' : rest ≡ Some t = sym (pick_false (is_full (spot w r c Between)) None rest f) ∙ e in
    by_test (eqb b 45)
    (λ d. subst Good (on_is rest (spot w r c Dash) t (pick_true (eqb b 45) (Some (spot w r c Dash)) (on_if (within 48 57 b) (spot w r c Wrote)) d) e') (begins w r c g f Dash refl))
    (λ d. subst Good (tested (within 48 57 b) (spot w r c Wrote) t (sym (pick_false (eqb b 45) (Some (spot w r c Dash)) (on_if (within 48 57 b) (spot w r c Wrote)) d) ∙ e')).1 (begins w r c g f Wrote refl)))
  where
    rest : Option Spot
    rest = pick (eqb b 45) (Some (spot w r c Dash)) (on_if (within 48 57 b) (spot w r c Wrote))

good_on : (w r c : ℕ) (p : Phase) (b : ℕ) → Good (spot w r c p) → (t : Spot) → step (spot w r c p) b ≡ Some t → Good t
unfolding step row_ends
good_on w r c Wrote b g t e = subst Good (tested (is_move b) (spot w r c Moved) t e).1 (same_row w r c Wrote Moved refl g)
good_on w r c Moved b g t e = subst Good (tested (within 65 90 b) (spot w r (c + 1) Between) t e).1 (whole w r c Moved refl g)
good_on w r c Dash b g t e = subst Good (tested (eqb b 45) (spot w r c Dashes) t e).1 (same_row w r c Dash Dashes refl g)
good_on w r c Dashes b g t e = subst Good (tested (eqb b 45) (spot w r (c + 1) Between) t e).1 (whole w r c Dashes refl g)
good_on w r c Between b g t e = by_test (row_ends (spot w r c Between) b)
    (λ x.
    let h = both_split (both_split x).1 in
    subst Good (on_is (step_between (spot w r c Between) b) (spot (width_of (spot w r c Between)) (r + 1) 0 Between) t (pick_true (row_ends (spot w r c Between) b) (Some (spot (width_of (spot w r c Between)) (r + 1) 0 Between)) (entry_begins (spot w r c Between) b) x) e)
    (new_row w r c g h.0 (ltb-true r 24 h.1)))
    (λ x. begun w r c b g t (sym (pick_false (row_ends (spot w r c Between) b) (Some (spot (width_of (spot w r c Between)) (r + 1) 0 Between)) (entry_begins (spot w r c Between) b) x) ∙ e))

pub good_step : (s : Spot) (b : ℕ) → Good s → (t : Spot) → step s b ≡ Some t → Good t
good_step s b g t e = good_on s.width s.rows s.col s.phase b g t e
