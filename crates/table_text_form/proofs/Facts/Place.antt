-- Where the automaton stops is the place of refusal 19. Assumes nothing.
use Rattle.std.specs.Prelude.{◌≡◌, refl, Bool, true, false, List, [], ◌∷◌, ◌++◌, ℕ, zero, suc, ◌+◌, ◌-◌, ◌≤◌, ◌<◌, eqb, leb, ltb, length, take, drop, Err, None, Ok, Option, Result, Some}
use Rattle.std.proofs.Common.{sym, ap, subst, ◌∙◌, inl, inr, append_assoc, arith, take-append-drop, take-take, eq-eqb, ne_eqb, le-leb, ltb-true, ltb-false}
use Rattle.notation.specs.Choice.{pick}
use Rattle.notation.proofs.Facts.Tests.{by_test, pick_true, pick_false, clash}
use Rattle.table_text_form.specs.declared.Phase.{Phase}
use Rattle.table_text_form.specs.declared.Phase.TheVariants.{Between, Wrote, Moved, Dash, Dashes}
use Rattle.table_text_form.specs.declared.Spot.{Spot}
use Rattle.table_text_form.specs.Form.{spot, may_end, is_full, width_of, step, ends, scan, first, form_of}
use Rattle.table_text_form.proofs.Facts.Good.{Good, good_first, good_step, whole}
use Rattle.table_text_form.proofs.Facts.Columns.{formed_of_form}
use Rattle.table_text_form.specs.Line.{IsLine, MalformedAt}
use Rattle.table_text_form.proofs.Facts.Accepts.{begin_dash, move_on, letter_on, dash_on, dashes_on, of_form_formed}

-- whether the bytes of a list lead from a spot to one where a line may end
unfoldable accepts : List ℕ → Spot → Bool
accepts [] s = ends s
accepts (b ∷ l) s = elim (step s b) [ Some t ↦ accepts l t | None ↦ false ]

accepts_on : (b : ℕ) (l : List ℕ) (s : Spot) (x : Option Spot) → step s b ≡ x → accepts (b ∷ l) s ≡ (elim x as (λ _. Bool) [ Some t ↦ accepts l t | None ↦ false ])
unfolding accepts
accepts_on b l s x e = ap (λ (y : Option Spot). elim y as (λ _. Bool) [ Some t ↦ accepts l t | None ↦ false ]) e

scan_step : (b : ℕ) (l : List ℕ) (s : Spot) (i : ℕ) (x : Option Spot) → step s b ≡ x → scan (b ∷ l) s i ≡ (elim x as (λ _. (Result (ℕ × ℕ) ℕ)) [ Some t ↦ scan l t (i + 1) | None ↦ Err i ])
unfolding scan
scan_step b l s i x e = ap (λ (y : Option Spot). elim y as (λ _. (Result (ℕ × ℕ) ℕ)) [ Some t ↦ scan l t (i + 1) | None ↦ Err i ]) e

pub not_both : (x : Result (ℕ × ℕ) ℕ) (i r k : ℕ) → x ≡ Err i → ¬ (x ≡ Ok (r, k))
not_both x i r k a b = let z : ◌≡◌ {A = ℕ} 0 1 = cc in omega arith

malformed_is : (x : Result (ℕ × ℕ) ℕ) (i j : ℕ) → x ≡ Err i → x ≡ Err j → i ≡ j
malformed_is x i j a b = cc

-- the scan forms exactly the accepted lists
accepts-formed : (l : List ℕ) (s : Spot) (i : ℕ) → accepts l s ≡ true → (r : ℕ) × (k : ℕ) × (scan l s i ≡ Ok (r, k))
unfolding accepts scan
accepts-formed [] s i h = (s.rows + 1, width_of s, pick_true (ends s) (Ok (s.rows + 1, width_of s)) (Err i) h)
accepts-formed (b ∷ l) s i h = by (step s b) refl (λ t. accepts-formed l t (i + 1))
  where
    by : (x : Option Spot) → step s b ≡ x → ((t : Spot) → accepts l t ≡ true → (r : ℕ) × (k : ℕ) × (scan l t (i + 1) ≡ Ok (r, k))) → (r : ℕ) × (k : ℕ) × (scan (b ∷ l) s i ≡ Ok (r, k))
    by None e rec = absurd (clash h (accepts_on b l s None e))
    by (Some t) e rec =
        let (r, k, f) = rec t (sym (accepts_on b l s (Some t) e) ∙ h) in
        (r, k, scan_step b l s i (Some t) e ∙ f)

formed-accepts : (l : List ℕ) (s : Spot) (i r k : ℕ) → scan l s i ≡ Ok (r, k) → accepts l s ≡ true
unfolding accepts scan
formed-accepts [] s i r k h = by_test (ends s) (λ e. e) (λ e. absurd (not_both (scan [] s i) i r k (pick_false (ends s) (Ok (s.rows + 1, width_of s)) (Err i) e) h))
formed-accepts (b ∷ l) s i r k h = by (step s b) refl (λ t. formed-accepts l t (i + 1) r k)
  where
    by : (x : Option Spot) → step s b ≡ x → ((t : Spot) → scan l t (i + 1) ≡ Ok (r, k) → accepts l t ≡ true) → accepts (b ∷ l) s ≡ true
    by None e rec = absurd (not_both (scan (b ∷ l) s i) i r k (scan_step b l s i None e) h)
    by (Some t) e rec = accepts_on b l s (Some t) e ∙ rec t (sym (scan_step b l s i (Some t) e) ∙ h)

accepted-line : (l : List ℕ) → accepts l first ≡ true → IsLine l
unfolding form_of
accepted-line l h = let (r, k, e) = accepts-formed l first 0 h in (r, k, formed_of_form l r k e)

line-accepted : (l : List ℕ) → IsLine l → accepts l first ≡ true
unfolding form_of
line-accepted l (r, k, f) = formed-accepts l first 0 r k (of_form_formed l r k f)

-- ---- a line goes on from every good spot

-- what the present row needs to be able to end
abbrev floor : ℕ → ℕ
floor w = pick (eqb w 0) 2 w

may_end_lem : (w r c : ℕ) → Good (spot w r c Between) → floor w ≤ c → may_end (spot w r c Between) ≡ true
unfolding may_end Good
may_end_lem w r c (inl g) h =
    let t : eqb w 0 ≡ true = eq-eqb w 0 g.0 in
    let f : floor w ≡ 2 = pick_true (eqb w 0) 2 w t in
    pick_true (eqb w 0) (leb 2 c) (eqb c w) t ∙ le-leb 2 c (omega arith)
may_end_lem w r c (inr g) h =
    let t : eqb w 0 ≡ false = ne_eqb w 0 (λ e. omega (arith, g.0)) in
    let f : floor w ≡ w = pick_false (eqb w 0) 2 w t in
    pick_false (eqb w 0) (leb 2 c) (eqb c w) t ∙ eq-eqb c w (omega (arith, g.3))

not_full : (w r c : ℕ) → Good (spot w r c Between) → c < floor w → is_full (spot w r c Between) ≡ false
unfolding is_full Good
not_full w r c (inl g) h =
    let t : eqb w 0 ≡ true = eq-eqb w 0 g.0 in
    let f : floor w ≡ 2 = pick_true (eqb w 0) 2 w t in
    pick_true (eqb w 0) (eqb c 10) (eqb c w) t ∙ ne_eqb c 10 (λ e. omega arith)
not_full w r c (inr g) h =
    let t : eqb w 0 ≡ false = ne_eqb w 0 (λ e. omega (arith, g.0)) in
    let f : floor w ≡ w = pick_false (eqb w 0) 2 w t in
    pick_false (eqb w 0) (eqb c 10) (eqb c w) t ∙ ne_eqb c w (λ e. omega arith)

one_more_lem : (w r c : ℕ) → Good (spot w r c Between) → c < floor w → Good (spot w r (c + 1) Between)
unfolding Good
one_more_lem w r c (inl g) h =
    let f : floor w ≡ 2 = pick_true (eqb w 0) 2 w (eq-eqb w 0 g.0) in
    inl (g.0, g.1, omega arith)
one_more_lem w r c (inr g) h =
    let f : floor w ≡ w = pick_false (eqb w 0) 2 w (ne_eqb w 0 (λ e. omega (arith, g.0))) in
    inr (g.0, g.1, g.2, omega arith)

-- n entries, each of three dashes
dashed : ℕ → List ℕ
dashed zero = []
dashed (suc n) = 45 ∷ 45 ∷ 45 ∷ dashed n

fills : (n w r c : ℕ) → Good (spot w r c Between) → floor w - c ≡ n → accepts (dashed n) (spot w r c Between) ≡ true
unfolding accepts dashed ends
fills zero w r c g e = may_end_lem w r c g (omega arith)
fills (suc n) w r c g e =
    accepts_on 45 (45 ∷ 45 ∷ dashed n) (spot w r c Between) (Some (spot w r c Dash)) (begin_dash w r c (not_full w r c g (omega arith)))
    ∙ accepts_on 45 (45 ∷ dashed n) (spot w r c Dash) (Some (spot w r c Dashes)) (dash_on w r c 45 refl)
    ∙ accepts_on 45 (dashed n) (spot w r c Dashes) (Some (spot w r (c + 1) Between)) (dashes_on w r c 45 refl)
    ∙ fills n w r (c + 1) (one_more_lem w r c g (omega arith)) (omega arith)

goes_on : (w r c : ℕ) (p : Phase) → Good (spot w r c p) → (rest : List ℕ) × (accepts rest (spot w r c p) ≡ true)
goes_on w r c Between g = (dashed (floor w - c), fills (floor w - c) w r c g refl)
goes_on w r c Wrote g =
    let n = floor w - (c + 1) in (
      76 ∷ 65 ∷ dashed n,
      accepts_on 76 (65 ∷ dashed n) (spot w r c Wrote) (Some (spot w r c Moved)) (move_on w r c 76 (inl refl))
          ∙ accepts_on 65 (dashed n) (spot w r c Moved) (Some (spot w r (c + 1) Between)) (letter_on w r c 65 (omega arith, omega arith))
          ∙ fills n w r (c + 1) (whole w r c Wrote refl g) refl,
    )
goes_on w r c Moved g =
    let n = floor w - (c + 1) in (
      65 ∷ dashed n,
      accepts_on 65 (dashed n) (spot w r c Moved) (Some (spot w r (c + 1) Between)) (letter_on w r c 65 (omega arith, omega arith))
          ∙ fills n w r (c + 1) (whole w r c Moved refl g) refl,
    )
goes_on w r c Dash g =
    let n = floor w - (c + 1) in (
      45 ∷ 45 ∷ dashed n,
      accepts_on 45 (45 ∷ dashed n) (spot w r c Dash) (Some (spot w r c Dashes)) (dash_on w r c 45 refl)
          ∙ accepts_on 45 (dashed n) (spot w r c Dashes) (Some (spot w r (c + 1) Between)) (dashes_on w r c 45 refl)
          ∙ fills n w r (c + 1) (whole w r c Dash refl g) refl,
    )
goes_on w r c Dashes g =
    let n = floor w - (c + 1) in (
      45 ∷ dashed n,
      accepts_on 45 (dashed n) (spot w r c Dashes) (Some (spot w r (c + 1) Between)) (dashes_on w r c 45 refl)
          ∙ fills n w r (c + 1) (whole w r c Dashes refl g) refl,
    )

-- ---- the place

record Placed (s : Spot) (l : List ℕ) (j : ℕ) : Type 0 where
  pub inside : j ≤ length l
  pub before : (rest : List ℕ) × (accepts (take j l ++ rest) s ≡ true)
  pub after : j < length l → (rest : List ℕ) → ¬ (accepts (take (suc j) l ++ rest) s ≡ true)
  pub early : ¬ (accepts l s ≡ true)

plus_zero : (k : ℕ) → k ≡ k + 0
plus_zero k = omega arith

placed_from : (l : List ℕ) (s : Spot) (i₀ i : ℕ) → Good s → scan l s i₀ ≡ Err i → (j : ℕ) × (i ≡ i₀ + j) × Placed s l j
unfolding accepts scan
placed_from [] s i₀ i g e =
    let n : ¬ (ends s ≡ true) = λ t. not_both (scan [] s i₀) i (s.rows + 1) (width_of s) e (pick_true (ends s) (Ok (s.rows + 1, width_of s)) (Err i₀) t) in
    let f : ends s ≡ false = by_test (ends s) (λ t. absurd (n t)) (λ t. t) in (
      0,
      malformed_is (scan [] s i₀) i i₀ e (pick_false (ends s) (Ok (s.rows + 1, width_of s)) (Err i₀) f) ∙ plus_zero i₀,
      record {
        inside = omega arith;
        before = goes_on s.width s.rows s.col s.phase g;
        after = λ h. absurd (omega arith);
        early = n;
      },
    )
placed_from (b ∷ l) s i₀ i g e = by (step s b) refl (λ t g' e'. placed_from l t (i₀ + 1) i g' e')
  where
    by : (x : Option Spot) → step s b ≡ x → ((t : Spot) → Good t → scan l t (i₀ + 1) ≡ Err i → (j : ℕ) × (i ≡ i₀ + 1 + j) × Placed t l j) → (j : ℕ) × (i ≡ i₀ + j) × Placed s (b ∷ l) j
    by None x rec = (
      0,
      malformed_is (scan (b ∷ l) s i₀) i i₀ e (scan_step b l s i₀ None x) ∙ plus_zero i₀,
      record {
        inside = omega arith;
        before = goes_on s.width s.rows s.col s.phase g;
        after = λ h rest t. clash t (accepts_on b rest s None x);
        early = λ t. clash t (accepts_on b l s None x);
      },
    )
    by (Some t) x rec =
        let (j, m, p) = rec t (good_step s b g t x) (sym (scan_step b l s i₀ (Some t) x) ∙ e) in (
          suc j,
          omega arith,
          record {
            inside = omega (arith, p.inside);
            before = (p.before.0, accepts_on b (take j l ++ p.before.0) s (Some t) x ∙ p.before.1);
            after = λ h rest y. p.after (omega arith) rest (sym (accepts_on b (take (suc j) l ++ rest) s (Some t) x) ∙ y);
            early = λ y. p.early (sym (accepts_on b l s (Some t) x) ∙ y);
          },
        )

-- a line that the automaton does not accept is malformed where the automaton stops
pub place_right : (l : List ℕ) (i : ℕ) → form_of l ≡ Err i → MalformedAt l i
unfolding form_of
place_right l i e =
    let (j, m, p) = placed_from l first 0 i good_first e in
    let n : j ≡ i = omega arith in
    let q : Placed first l i = subst (Placed first l) n p in
    record {
      inside = q.inside;
      before = (q.before.0, accepted-line _ q.before.1);
      after = λ h rest t. q.after h rest (line-accepted _ t);
      early = λ t. q.early (line-accepted l t);
    }

-- ---- it is malformed at one place only

-- a line that begins with the first j bytes of l begins with the first n of them
begins_less : (l rest : List ℕ) (n j : ℕ) → n ≤ j → take j l ++ rest ≡ take n l ++ (drop n (take j l) ++ rest)
begins_less l rest n j h =
    sym (ap (λ (x : List ℕ). x ++ rest) (take-append-drop n (take j l))) ∙ append_assoc (take n (take j l)) (drop n (take j l)) rest
    ∙ ap (λ (x : List ℕ). x ++ (drop n (take j l) ++ rest)) (take-take n j l h)

not_before : (l : List ℕ) (i j : ℕ) → MalformedAt l i → MalformedAt l j → ¬ (i < j)
not_before l i j a b h =
    let x = b.before in
    let y = b.inside in
    a.after (omega arith) (drop (suc i) (take j l) ++ x.0) (subst IsLine (begins_less l x.0 (suc i) j (omega arith)) x.1)

pub malformed-once : (l : List ℕ) (i j : ℕ) → MalformedAt l i → MalformedAt l j → i ≡ j
malformed-once l i j a b =
    let p = not_before l i j a b in
    let q = not_before l j i b a in
    by_test (ltb i j) (λ t. absurd (p (ltb-true _ _ t))) (λ t. by_test (ltb j i) (λ u. absurd (q (ltb-true _ _ u))) (λ u. let x = ltb-false i j t in let y = ltb-false j i u in omega arith))

-- the automaton stops at the place of refusal 19
pub malformed_form : (l : List ℕ) (i : ℕ) → MalformedAt l i → form_of l ≡ Err i
malformed_form l i m = by (form_of l) refl
  where
    by : (x : Result (ℕ × ℕ) ℕ) → form_of l ≡ x → x ≡ Err i
    by (Ok (r, k)) e = absurd (m.early (r, k, formed_of_form l r k e))
    by (Err j) e = ap Err (malformed-once l j i (place_right l j e) m)
