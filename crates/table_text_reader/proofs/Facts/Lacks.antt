-- THE PLACE OF REFUSAL 20: the reader's test fails exactly at the letters and digits that the line's rows lack. Assumes nothing.
use Rattle.std.specs.Prelude.{◌≡◌, refl, true, false, ◌⊎◌, List, ℕ, zero, suc, ◌+◌, ◌*◌, ◌%◌, ◌≤◌, ◌<◌, eqb, ltb, length, get_or}
use Rattle.std.proofs.Common.{sym, ap, subst, ◌∙◌, inl, inr, arith, ne_eqb, lt-ltb, le-ltb, ltb-false}
use Rattle.std.proofs.lemmas.Bool.{eqb-false}
use Rattle.notation.proofs.Facts.Tests.{by_test, clash, pick_true, pick_false}
use Rattle.table_text_form.specs.Line.{place, EntryAt, OfForm}
use Rattle.table_text_form.proofs.Facts.Places.{place_in}
use Rattle.table_text_reader.specs.Reading.{letter_place, has_letter, has_digit, has_byte}
use Rattle.table_text_reader.specs.Meaning.{LacksDigit, LacksLetter, LacksAt}
use Rattle.table_text_reader.proofs.Facts.Columns.{Column, byte, bar, column, letter_place_lem, bar_col}

-- ---- one byte

-- a byte that is no digit has no symbol to lack
no_digit : (k b : ℕ) → 57 < b → has_digit k b ≡ true
no_digit k b h = pick_true (ltb 57 b) true (ltb b (48 + k)) (lt-ltb 57 b h)

small_digit : (k b : ℕ) → b ≤ 57 → b < 48 + k → has_digit k b ≡ true
small_digit k b h l = pick_false (ltb 57 b) true (ltb b (48 + k)) (le-ltb 57 b h) ∙ lt-ltb b (48 + k) l

digit_lacks : (k b : ℕ) → b ≤ 57 → has_digit k b ≡ false → 48 + k ≤ b
digit_lacks k b h e = ltb-false b (48 + k) (sym (pick_false (ltb 57 b) true (ltb b (48 + k)) (le-ltb 57 b h)) ∙ e)

lacks_digit : (k b : ℕ) → LacksDigit k b → has_digit k b ≡ false
lacks_digit k b l = pick_false (ltb 57 b) true (ltb b (48 + k)) (le-ltb 57 b l.0.1) ∙ le-ltb b (48 + k) l.1

letter_lacks : (rows b : ℕ) → has_letter rows b ≡ false → ¬ (b ≡ 90) × (65 + rows ≤ b)
letter_lacks rows b e = by_test (eqb b 90)
    (λ t. absurd (clash (pick_true (eqb b 90) true (ltb b (65 + rows)) t) e))
    (λ t. (eqb-false b 90 t, ltb-false b (65 + rows) (sym (pick_false (eqb b 90) true (ltb b (65 + rows)) t) ∙ e)))

lacks_letter : (rows b : ℕ) → LacksLetter rows b → has_letter rows b ≡ false
lacks_letter rows b l = pick_false (eqb b 90) true (ltb b (65 + rows)) (ne_eqb b 90 l.1) ∙ le-ltb b (65 + rows) l.2

-- ---- one place

module _ (rows k : ℕ) (line : List ℕ) where
  as_letter : (i : ℕ) → letter_place k i ≡ true → has_byte rows k line i ≡ has_letter rows (get_or line i 0)
  unfolding has_byte
  as_letter i e = pick_true (letter_place k i) (has_letter rows (get_or line i 0)) (has_digit k (get_or line i 0)) e

  as_digit : (i : ℕ) → letter_place k i ≡ false → has_byte rows k line i ≡ has_digit k (get_or line i 0)
  unfolding has_byte
  as_digit i e = pick_false (letter_place k i) (has_letter rows (get_or line i 0)) (has_digit k (get_or line i 0)) e

  pub lacks_fails : (i : ℕ) → LacksAt rows k line i → has_byte rows k line i ≡ false
  lacks_fails i (q, a, h, l, inl d) =
      let p : i ≡ place k q a + 0 = omega (arith, d.0) in
      as_digit i (ap (letter_place k) p ∙ letter_place_lem k q a 0 l (omega arith)) ∙ lacks_digit k (get_or line i 0) d.1
  lacks_fails i (q, a, h, l, inr d) =
      as_letter i (ap (letter_place k) d.0 ∙ letter_place_lem k q a 2 l (omega arith)) ∙ lacks_letter rows (get_or line i 0) d.1

  module _ (f : OfForm rows k line) where
    first_byte : (q a : ℕ) → q < rows → a < k → has_byte rows k line (place k q a + 0) ≡ false → LacksAt rows k line (place k q a + 0)
    first_byte q a h l e =
        let z : place k q a + 0 ≡ place k q a = omega arith in
        let d : has_digit k (get_or line (place k q a + 0) 0) ≡ false = sym (as_digit (place k q a + 0) (letter_place_lem k q a 0 l (omega arith))) ∙ e in
        let d' : has_digit k (get_or line (place k q a) 0) ≡ false = subst (λ (n : ℕ). has_digit k (get_or line n 0) ≡ false) z d in
        subst (LacksAt rows k line) (sym z) (q, a, h, l, inl (refl, of (f.entries q a h l) d'))
      where
        of : EntryAt line (place k q a) → has_digit k (get_or line (place k q a) 0) ≡ false → LacksDigit k (get_or line (place k q a) 0)
        of (inl t) d = absurd (clash (small_digit k (get_or line (place k q a) 0) (omega (arith, t.0)) (omega (arith, t.0))) d)
        of (inr t) d = (t.0, digit_lacks k (get_or line (place k q a) 0) t.0.1 d)

    second_byte : (q a : ℕ) → q < rows → a < k → has_byte rows k line (place k q a + 1) ≡ true
    second_byte q a h l = as_digit (place k q a + 1) (letter_place_lem k q a 1 l (omega arith)) ∙ of (f.entries q a h l)
      where
        of : EntryAt line (place k q a) → has_digit k (get_or line (place k q a + 1) 0) ≡ true
        of (inl t) = small_digit k (get_or line (place k q a + 1) 0) (omega (arith, t.1)) (omega (arith, t.1))
        of (inr t) = move t.1
          where
            move : (get_or line (place k q a + 1) 0 ≡ 76) ⊎ (get_or line (place k q a + 1) 0 ≡ 82) → has_digit k (get_or line (place k q a + 1) 0) ≡ true
            move (inl e) = no_digit k (get_or line (place k q a + 1) 0) (omega arith)
            move (inr e) = no_digit k (get_or line (place k q a + 1) 0) (omega arith)

    third_byte : (q a : ℕ) → q < rows → a < k → has_byte rows k line (place k q a + 2) ≡ false → LacksAt rows k line (place k q a + 2)
    third_byte q a h l e =
        let d : has_letter rows (get_or line (place k q a + 2) 0) ≡ false = sym (as_letter (place k q a + 2) (letter_place_lem k q a 2 l (omega arith))) ∙ e in
        (q, a, h, l, inr (refl, of (f.entries q a h l) (letter_lacks rows (get_or line (place k q a + 2) 0) d)))
      where
        of : EntryAt line (place k q a) → ¬ (get_or line (place k q a + 2) 0 ≡ 90) × (65 + rows ≤ get_or line (place k q a + 2) 0) → LacksLetter rows (get_or line (place k q a + 2) 0)
        of (inl t) d = absurd (omega (arith, t.2, d.1))
        of (inr t) d = (t.2, d.0, d.1)

    pub fails_lacks : (i : ℕ) → i < length line → has_byte rows k line i ≡ false → LacksAt rows k line i
    fails_lacks i h e = by (column rows k (length line) i f.size h)
      where
        at : (p : ℕ) → i ≡ p → has_byte rows k line p ≡ false
        at p x = subst (λ (n : ℕ). has_byte rows k line n ≡ false) x e

        by : Column rows k i → LacksAt rows k line i
        by (byte q a zero u v w x) = subst (LacksAt rows k line) (sym x) (first_byte q a u v (at (place k q a + 0) x))
        by (byte q a (suc zero) u v w x) = absurd (clash (second_byte q a u v) (at (place k q a + 1) x))
        by (byte q a (suc (suc zero)) u v w x) = subst (LacksAt rows k line) (sym x) (third_byte q a u v (at (place k q a + 2) x))
        by (byte q a (suc (suc (suc j))) u v w x) = absurd (omega arith)
        by (bar q u x) =
            let b : get_or line i 0 ≡ 95 = ap (λ (n : ℕ). get_or line n 0) x ∙ f.parted q u in
            let c : letter_place k i ≡ false = ap (letter_place k) x ∙ ap (λ (n : ℕ). eqb (n % 3) 2) (bar_col k q) ∙ ne_eqb (3 * k % 3) 2 (λ (y : 3 * k % 3 ≡ 2). omega arith) in
            absurd (clash (as_digit i c ∙ no_digit k (get_or line i 0) (omega arith)) e)

    -- a letter or a digit that the rows lack is in the line
    pub lacks_in : (i : ℕ) → LacksAt rows k line i → i < length line
    lacks_in i (q, a, h, l, inl d) = let p = place_in k q a l rows (length line) h f.size in omega (arith, d.0)
    lacks_in i (q, a, h, l, inr d) = let p = place_in k q a l rows (length line) h f.size in omega (arith, d.0)
