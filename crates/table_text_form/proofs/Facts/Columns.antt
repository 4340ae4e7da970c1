-- A line that the automaton accepts is a line of the form, with the rows and the symbols that it answers. Assumes nothing.
use Rattle.std.specs.Prelude.{Result, ◌≡◌, Bool, true, false, ◌⊎◌, List, eqb, ltb, drop, Err, None, Ok, Option, Some}
use Rattle.std.proofs.Math.Path.{refl, sym, ap, subst}
use Rattle.std.proofs.Common.{◌∙◌, inl, inr}
use Prim.Native.Nat.{ℕ, zero, suc, ◌+◌, ◌*◌, ◌≤◌, ◌<◌}
use Rattle.std.proofs.Math.Decide.{ℕ_discrete}
use native.Mathlib.Omega.{arith}
use borrow.Author.Tests.{eqb-true, ltb-true, ltb-false}
use Rattle.std.proofs.Math.ListN.{length, get_or}
use Rattle.notation.specs.Choice.{pick}
use Rattle.notation.proofs.Facts.Tests.{by_test, both_split, clash, pick_true, pick_false}
use Rattle.table_bytes.specs.Model.Entries.{within}
use Rattle.table_bytes.proofs.Facts.EntryCases.{within_says}
use Rattle.table_text_form.specs.declared.Phase.TheVariants.{Between, Wrote, Moved, Dash, Dashes}
use Rattle.table_text_form.specs.declared.Spot.{Spot}
use Rattle.table_text_form.specs.Form.{spot, is_move, may_end, is_full, width_of, on_if, row_ends, entry_begins, step_between, step, ends, scan, first, form_of}
use Rattle.table_text_form.specs.Line.{place, EntryAt, OfForm}
use Rattle.table_text_form.proofs.Facts.Good.{Good, good_first, good_rows, row_width, on_is, stop_is, tested, whole, begins, new_row}
use Rattle.table_text_form.proofs.Facts.Cases.{scan_on, scan_stop, scan_formed, scan_early}

module _ (line : List ℕ) (rows k : ℕ) where
  -- ---- one byte of an accepted line

  data Seen (s : Spot) (i : ℕ) : Type 0 where
    over : i ≡ length line → ends s ≡ true → s.rows + 1 ≡ rows → width_of s ≡ k → Seen s i
    on : i < length line → (t : Spot) → step s (get_or line i 0) ≡ Some t → scan (drop (i + 1) line) t (i + 1) ≡ Ok (rows, k) → Seen s i

  formed_is : (a b c d : ℕ) → ◌≡◌ {A = Result (ℕ × ℕ) ℕ} (Ok (a, b)) (Ok (c, d)) → (a ≡ c) × (b ≡ d)
  formed_is a b c d e = let p : ◌≡◌ {A = ℕ × ℕ} (a, b) (c, d) = cc in (ap (λ (x : ℕ × ℕ). x.0) p, ap (λ (x : ℕ × ℕ). x.1) p)

  not_formed : (i : ℕ) → ¬ ◌≡◌ {A = Result (ℕ × ℕ) ℕ} (Err i) (Ok (rows, k))
  not_formed i e = let z : ◌≡◌ {A = ℕ} 0 1 = cc in omega arith

  seen : (s : Spot) (i : ℕ) → i ≤ length line → scan (drop i line) s i ≡ Ok (rows, k) → Seen s i
  seen s i h e = by_test (ltb i (length line))
      (λ t. more (ltb-true _ _ t) (step s (get_or line i 0)) refl)
      (λ t. let g = ltb-false i (length line) t in
      by_test (ends s)
      (λ f. let p = formed_is _ _ _ _ (scan_formed line s i _ e (ends s) (width_of s) h g refl f refl) in over (omega arith) f p.0 p.1)
      (λ f. absurd (not_formed i (scan_early line s i _ e (ends s) h g refl f))))
    where
      more : i < length line → (x : Option Spot) → step s (get_or line i 0) ≡ x → Seen s i
      more g (Some t) f = on g t f (scan_on line s i _ e (Some t) t g (sym f) refl)
      more g None f = absurd (not_formed i (scan_stop line s i _ e None g (sym f) refl))

  -- ---- one entry

  -- between entries: the line ends, or the row does, or an entry follows
  data Follows (w r c i : ℕ) : Type 0 where
    end : i ≡ length line → may_end (spot w r c Between) ≡ true → r + 1 ≡ rows → width_of (spot w r c Between) ≡ k → Follows w r c i
    row : i < length line → get_or line i 0 ≡ 95 → may_end (spot w r c Between) ≡ true → r < 24
        → scan (drop (i + 1) line) (spot (width_of (spot w r c Between)) (r + 1) 0 Between) (i + 1) ≡ Ok (rows, k) → Follows w r c i
    entry : i + 2 < length line → is_full (spot w r c Between) ≡ false → EntryAt line i → scan (drop (i + 3) line) (spot w r (c + 1) Between) (i + 3) ≡ Ok (rows, k) → Follows w r c i

  -- inside an entry, a byte that a test lets pass
  inside : (s t : Spot) (i : ℕ) (test : Bool) → ends s ≡ false → step s (get_or line i 0) ≡ on_if test t → i ≤ length line → scan (drop i line) s i ≡ Ok (rows, k)
      → (i < length line) × (test ≡ true) × (scan (drop (i + 1) line) t (i + 1) ≡ Ok (rows, k))
  inside s t i test n f h e = by (seen s i h e)
    where
      by : Seen s i → (i < length line) × (test ≡ true) × (scan (drop (i + 1) line) t (i + 1) ≡ Ok (rows, k))
      by (over a b c d) = absurd (clash b n)
      by (on g u a b) =
          let p = tested test t u (sym f ∙ a) in
          (g, p.0, subst (λ (v : Spot). scan (drop (i + 1) line) v (i + 1) ≡ Ok (rows, k)) (sym p.1) b)

  move_says : (b : ℕ) → is_move b ≡ true → b ≡ 76 ⊎ b ≡ 82
  move_says b h = by_test (eqb b 76) (λ t. inl (eqb-true b 76 t)) (λ t. inr (eqb-true b 82 (sym (pick_false (eqb b 76) true (eqb b 82) t) ∙ h)))

  at_two : (w r c i : ℕ) → scan (drop (i + 1 + 1 + 1) line) (spot w r (c + 1) Between) (i + 1 + 1 + 1) ≡ Ok (rows, k)
      → scan (drop (i + 3) line) (spot w r (c + 1) Between) (i + 3) ≡ Ok (rows, k)
  at_two w r c i e = let p : i + 1 + 1 + 1 ≡ i + 3 = omega arith in subst (λ (j : ℕ). scan (drop j line) (spot w r (c + 1) Between) j ≡ Ok (rows, k)) p e

  third : (i : ℕ) → get_or line (i + 1 + 1) 0 ≡ get_or line (i + 2) 0
  third i = let p : i + 1 + 1 ≡ i + 2 = omega arith in ap (λ (j : ℕ). get_or line j 0) p

  wrote : (w r c i : ℕ) → i < length line → is_full (spot w r c Between) ≡ false → within 48 57 (get_or line i 0) ≡ true → scan (drop (i + 1) line) (spot w r c Wrote) (i + 1) ≡ Ok (rows, k) → Follows w r c i
  unfolding step ends
  wrote w r c i h full d e =
      let a = inside (spot w r c Wrote) (spot w r c Moved) (i + 1) (is_move (get_or line (i + 1) 0)) refl refl (omega arith) e in
      let l : i + 1 < length line = a.0 in
      let b = inside (spot w r c Moved) (spot w r (c + 1) Between) (i + 1 + 1) (within 65 90 (get_or line (i + 1 + 1) 0)) refl refl (omega arith) a.2 in
      let m : i + 1 + 1 < length line = b.0 in
      let z = within_says 65 90 _ b.1 in
      entry (omega arith) full (inr (within_says 48 57 _ d, move_says _ a.1, subst (λ (x : ℕ). (65 ≤ x) × (x ≤ 90)) (third i) z)) (at_two w r c i b.2)

  dash : (w r c i : ℕ) → i < length line → is_full (spot w r c Between) ≡ false → get_or line i 0 ≡ 45 → scan (drop (i + 1) line) (spot w r c Dash) (i + 1) ≡ Ok (rows, k) → Follows w r c i
  unfolding step ends
  dash w r c i h full d e =
      let a = inside (spot w r c Dash) (spot w r c Dashes) (i + 1) (eqb (get_or line (i + 1) 0) 45) refl refl (omega arith) e in
      let l : i + 1 < length line = a.0 in
      let b = inside (spot w r c Dashes) (spot w r (c + 1) Between) (i + 1 + 1) (eqb (get_or line (i + 1 + 1) 0) 45) refl refl (omega arith) a.2 in
      let m : i + 1 + 1 < length line = b.0 in
      entry (omega arith) full (inl (d, eqb-true _ 45 a.1, sym (third i) ∙ eqb-true _ 45 b.1)) (at_two w r c i b.2)

  begun : (w r c i : ℕ) → i < length line → (t : Spot) → entry_begins (spot w r c Between) (get_or line i 0) ≡ Some t → scan (drop (i + 1) line) t (i + 1) ≡ Ok (rows, k) → Follows w r c i
  unfolding entry_begins
  begun w r c i h t f e = by_test (is_full (spot w r c Between))
      (λ full. absurd (stop_is (entry_begins (spot w r c Between) b) t (pick_true (is_full (spot w r c Between)) None rest full) f))
      (λ full.
      let f' : rest ≡ Some t = sym (pick_false (is_full (spot w r c Between)) None rest full) ∙ f in
      by_test (eqb b 45)
      (λ d. dash w r c i h full (eqb-true b 45 d) (along (sym (on_is rest (spot w r c Dash) t (pick_true (eqb b 45) (Some (spot w r c Dash)) digit d) f'))))
      (λ d. let p = tested (within 48 57 b) (spot w r c Wrote) t (sym (pick_false (eqb b 45) (Some (spot w r c Dash)) digit d) ∙ f') in wrote w r c i h full p.0 (along (sym p.1))))
    where
      b : ℕ
      b = get_or line i 0

      digit : Option Spot
      digit = on_if (within 48 57 b) (spot w r c Wrote)

      rest : Option Spot
      rest = pick (eqb b 45) (Some (spot w r c Dash)) digit

      along : {u : Spot} → t ≡ u → scan (drop (i + 1) line) u (i + 1) ≡ Ok (rows, k)
      along p = subst (λ (v : Spot). scan (drop (i + 1) line) v (i + 1) ≡ Ok (rows, k)) p e

  follows : (w r c i : ℕ) → i ≤ length line → scan (drop i line) (spot w r c Between) i ≡ Ok (rows, k) → Follows w r c i
  unfolding step ends row_ends
  follows w r c i h e = by (seen (spot w r c Between) i h e)
    where
      s : Spot
      s = spot w r c Between

      next : Spot
      next = spot (width_of s) (r + 1) 0 Between

      by : Seen s i → Follows w r c i
      by (over a b x y) = end a b x y
      by (on g t f e') = by_test (row_ends s (get_or line i 0))
          (λ x.
          let p = both_split x in
          row g (eqb-true _ 95 p.0) (both_split p.1).0 (ltb-true _ _ (both_split p.1).1)
          (subst (λ (v : Spot). scan (drop (i + 1) line) v (i + 1) ≡ Ok (rows, k)) (sym (on_is (step_between s (get_or line i 0)) next t (pick_true (row_ends s (get_or line i 0)) (Some next) (entry_begins s (get_or line i 0)) x) f)) e'))
          (λ x. begun w r c i g t (sym (pick_false (row_ends s (get_or line i 0)) (Some next) (entry_begins s (get_or line i 0)) x) ∙ f) e')

  -- ---- all entries from a spot on

  -- entry a of row q is not before entry c of row r
  abbrev After : (r c q a : ℕ) → Type 0
  After r c q a = r < q ⊎ ((r ≡ q) × (c ≤ a))

  record Found (w r c : ℕ) : Type 0 where
    pub kept : w ≡ 0 ⊎ w ≡ k
    pub symbols_are : (2 ≤ k) × (k ≤ 10)
    pub rows_are : (r < rows) × (rows ≤ 25)
    pub col : c ≤ k
    pub size : length line + 1 ≡ rows * (3 * k + 1)
    pub entries : (q a : ℕ) → q < rows → a < k → After r c q a → EntryAt line (place k q a)
    pub parted : (q : ℕ) → q + 1 < rows → r ≤ q → get_or line (place k q k) 0 ≡ 95

  -- the place of a spot, whose width is that of the line or, in the first row, 0
  same_place : (v w r c : ℕ) → Good (spot w r c Between) → w ≡ 0 ⊎ w ≡ v → place w r c ≡ place v r c
  unfolding Good
  same_place v w r c (inl g) (inl e) =
      let first : place w 0 c ≡ place v 0 c = omega arith in
      ap (λ (n : ℕ). place w n c) g.1 ∙ first ∙ sym (ap (λ (n : ℕ). place v n c) g.1)
  same_place v w r c (inr g) (inl e) = absurd (omega (arith, g.0))
  same_place v w r c g (inr e) = rw e refl

  next_row : (k r : ℕ) → place k r k + 1 ≡ place k (r + 1) 0
  next_row k r = let e : (r + 1) * (3 * k + 1) ≡ r * (3 * k + 1) + (3 * k + 1) = omega arith in omega arith

  module _ (w r c i : ℕ) (g : Good (spot w r c Between)) (here : i ≡ place w r c) where
    found_end : i ≡ length line → may_end (spot w r c Between) ≡ true → r + 1 ≡ rows → width_of (spot w r c Between) ≡ k → Found w r c
    found_end h m e f =
        let x = row_width w r c g m in
        let full : c ≡ k = sym x.2 ∙ f in
        let kept : w ≡ 0 ⊎ w ≡ k = subst (λ (n : ℕ). w ≡ 0 ⊎ w ≡ n) full x.3 in
        let p : place w r c ≡ place k r c = same_place k w r c g kept in
        let l = next_row k r in
        let q : rows * (3 * k + 1) ≡ place k (r + 1) 0 = ap (λ (n : ℕ). n * (3 * k + 1)) (sym e) ∙ plus ((r + 1) * (3 * k + 1)) in
        let a : place k r c ≡ place k r k = ap (place k r) full in
        let b = good_rows (spot w r c Between) g in
        record {
          kept = kept;
          symbols_are = (omega (arith, x.0), omega (arith, x.1));
          rows_are = (omega arith, omega (arith, b.0));
          col = omega arith;
          size = omega arith;
          entries = λ u v lu lv t. absurd (none u v lu lv t);
          parted = λ u lu t. absurd (omega arith);
        }
      where
        plus : (n : ℕ) → n ≡ n + 3 * 0
        plus n = omega arith

        none : (u v : ℕ) → u < rows → v < k → After r c u v → ⊥
        none u v lu lv (inl t) = omega arith
        none u v lu lv (inr t) = let full : c ≡ k = sym (row_width w r c g m).2 ∙ f in omega (arith, t.1)

    found_row : get_or line i 0 ≡ 95 → may_end (spot w r c Between) ≡ true → Found (width_of (spot w r c Between)) (r + 1) 0 → Found w r c
    found_row b m rec =
        let x = row_width w r c g m in
        let full : c ≡ k = wide rec.kept in
        let kept : w ≡ 0 ⊎ w ≡ k = subst (λ (n : ℕ). w ≡ 0 ⊎ w ≡ n) full x.3 in
        let p : i ≡ place k r k = here ∙ same_place k w r c g kept ∙ ap (place k r) full in
        record {
          kept = kept;
          symbols_are = rec.symbols_are;
          rows_are = (omega (arith, rec.rows_are.0), rec.rows_are.1);
          col = omega arith;
          size = rec.size;
          entries = λ u v lu lv t. rec.entries u v lu lv (later u v lv full t);
          parted = λ u lu t. between u lu t p (ℕ_discrete r u);
        }
      where
        wide : width_of (spot w r c Between) ≡ 0 ⊎ width_of (spot w r c Between) ≡ k → c ≡ k
        wide (inl e) = let x = row_width w r c g m in absurd (omega (arith, x.0))
        wide (inr e) = let x = row_width w r c g m in sym x.2 ∙ e

        later : (u v : ℕ) → v < k → c ≡ k → After r c u v → After (r + 1) 0 u v
        later u v lv full (inl t) = by_test (ltb (r + 1) u) (λ y. inl (ltb-true _ _ y)) (λ y. let z = ltb-false (r + 1) u y in inr (omega arith, omega arith))
        later u v lv full (inr t) = absurd (omega (arith, t.1))

        between : (u : ℕ) → u + 1 < rows → r ≤ u → i ≡ place k r k → Dec (r ≡ u) → get_or line (place k u k) 0 ≡ 95
        between u lu t p (yes e) = ap (λ (n : ℕ). get_or line (place k n k) 0) (sym e) ∙ ap (λ (n : ℕ). get_or line n 0) (sym p) ∙ b
        between u lu t p (no f) = rec.parted u lu (omega arith)

    found_entry : EntryAt line i → Found w r (c + 1) → Found w r c
    found_entry e rec =
        let p : i ≡ place k r c = here ∙ same_place k w r c g rec.kept in
        record {
          kept = rec.kept;
          symbols_are = rec.symbols_are;
          rows_are = rec.rows_are;
          col = omega (arith, rec.col);
          size = rec.size;
          entries = λ u v lu lv t. one u v lu lv p t;
          parted = rec.parted;
        }
      where
        one : (u v : ℕ) → u < rows → v < k → i ≡ place k r c → After r c u v → EntryAt line (place k u v)
        one u v lu lv p (inl t) = rec.entries u v lu lv (inl t)
        one u v lu lv p (inr t) = by (ℕ_discrete c v)
          where
            by : Dec (c ≡ v) → EntryAt line (place k u v)
            by (yes f) = subst (EntryAt line) (p ∙ ap (λ (n : ℕ). place k n c) t.0 ∙ ap (place k u) f) e
            by (no f) = rec.entries u v lu lv (inr (t.0, omega (arith, t.1)))

  -- n is at least the number of bytes left
  found : (n w r c i : ℕ) → length line ≤ i + n → Good (spot w r c Between) → i ≡ place w r c → i ≤ length line
      → scan (drop i line) (spot w r c Between) i ≡ Ok (rows, k) → Found w r c
  found zero w r c i room g here h e = by (follows w r c i h e)
    where
      by : Follows w r c i → Found w r c
      by (end a m x y) = found_end w r c i g here a m x y
      by (row a b m l f) = absurd (omega arith)
      by (entry a full b f) = absurd (omega arith)
  found (suc n) w r c i room g here h e = by (follows w r c i h e) (found n)
    where
      by : Follows w r c i
          → ((w r c i : ℕ) → length line ≤ i + n → Good (spot w r c Between) → i ≡ place w r c → i ≤ length line → scan (drop i line) (spot w r c Between) i ≡ Ok (rows, k) → Found w r c)
          → Found w r c
      by (end a m x y) rec = found_end w r c i g here a m x y
      by (row a b m l f) rec =
          let x = row_width w r c g m in
          found_row w r c i g here b m
          (rec (width_of (spot w r c Between)) (r + 1) 0 (i + 1) (omega arith) (new_row w r c g m l) (row_place x.2 x.3) (omega arith) f)
        where
          -- the width that the next row has
          row_place : width_of (spot w r c Between) ≡ c → w ≡ 0 ⊎ w ≡ c → i + 1 ≡ place (width_of (spot w r c Between)) (r + 1) 0
          row_place q t =
              let p : place w r c ≡ place c r c = same_place c w r c g t in
              let s = next_row c r in
              let y : i + 1 ≡ place c (r + 1) 0 = omega arith in
              y ∙ ap (λ (v : ℕ). place v (r + 1) 0) (sym q)
      by (entry a full b f) rec =
          found_entry w r c i g here b
          (rec w r (c + 1) (i + 3) (omega arith) (whole w r c Wrote refl (begins w r c g full Wrote refl)) (omega arith) (omega arith) f)

-- the columns of an accepted line
pub formed_of_form : (line : List ℕ) (rows k : ℕ) → form_of line ≡ Ok (rows, k) → OfForm rows k line
unfolding form_of
formed_of_form line rows k e =
    let f = found line rows k (length line) 0 0 0 0 (omega arith) good_first refl (omega arith) e in
    record {
      symbols_are = f.symbols_are;
      rows_are = (omega (arith, f.rows_are.0), f.rows_are.1);
      size = f.size;
      entries = λ q a lq la. f.entries q a lq la (from q a);
      parted = λ q l. f.parted q l (omega arith);
    }
  where
    from : (q a : ℕ) → 0 < q ⊎ ((0 ≡ q) × (0 ≤ a))
    from zero a = inr (refl, omega arith)
    from (suc q) a = inl (omega arith)
