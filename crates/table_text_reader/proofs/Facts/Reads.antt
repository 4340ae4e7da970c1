-- READING: what the reader answers, and the table that it writes. Assumes nothing.
use Rattle.machine.specs.declared.Machine.{Machine}
use Rattle.outcome.specs.declared.Refusal.{Refusal}
use Rattle.std.specs.Prelude.{◌≡◌, refl, true, ℕ, zero, suc, ◌+◌, ◌-◌, ◌*◌, ◌/◌, ◌%◌, ◌^◌, ◌≤◌, ◌<◌, leb, length, take, Err, None, Ok, Option, Result, Some}
use Rattle.std.proofs.Common.{sym, ◌∙◌, inl, inr, mod-lt, le-leb, leb-true, leb-false, lt-ltb, le-ltb, ltb-true, ltb-false, length-take-le}
use Rattle.std.proofs.Math.Path.{ap, subst}
use Rattle.std.proofs.Math.Bool.{false}
use mathlib.Core.List.{List}
use native.Mathlib.Omega.{arith}
use Rattle.std.proofs.Math.Dec.{ltb}
use Rattle.std.proofs.Math.ListN.{get_or}
use Rattle.std.proofs.Math.Seq.{get_or-take}
use Rattle.notation.specs.Fill.{fill_from}
use Rattle.notation.specs.Scan.{first_fail}
use Rattle.notation.proofs.Facts.Fill.{length_fill, fill_in, fill_past}
use Rattle.notation.proofs.Facts.Scan.{Scanned, clean, failed, scanned, clean_none}
use Rattle.notation.proofs.Facts.Tests.{by_test, clash, pick_cases, pick_true, pick_false}
use Rattle.outcome.specs.declared.Refusal.TheVariants as Why
use Rattle.machine.proofs.Facts.CheckCases.{stride_one}
use Rattle.machine.specs.Layout.{byte_at, entry_at}
use Rattle.table_laws.specs.WellFormed.{entry_bytes, EntryOf, WellFormed}
use Rattle.table_laws.proofs.Facts.Reading.{entry_read}
use Rattle.table_text_form.specs.Form.{form_of}
use Rattle.table_text_form.specs.Line.{place, OfForm, MalformedAt}
use Rattle.table_text_form.proofs.Facts.Columns.{formed_of_form}
use Rattle.table_text_form.proofs.Facts.Places.{number_is, row_below, row_in}
use Rattle.table_text_form.proofs.Facts.Accepts.{of_form_formed}
use Rattle.table_text_form.proofs.Facts.Place.{place_right}
use Rattle.table_text_reader.specs.Reading.{has_byte, machine_of, entry_of, entry_in, table_byte, table_size, room_for, read_of, read_on, read_into}
use Rattle.table_text_reader.proofs.Facts.Places.{text_place_lem}
use Rattle.table_text_reader.specs.Meaning.{LacksDigit, LacksLetter, LacksAt, FirstLacking, GoodLine, Says, SaysAt}
use Rattle.table_text_reader.proofs.Facts.ReadCases.{answer_malformed, answer_lacks, answer_has}
use Rattle.table_text_reader.proofs.Facts.Lacks.{lacks_fails, fails_lacks, lacks_in}
use Rattle.table_text_reader.proofs.Facts.Texts.{read_says, read_of_machine}

-- ---- the answer, from what the line is

module _ (line : List ℕ) (room : ℕ) where
  module _ (rows k : ℕ) (f : OfForm rows k line) where
    pub as_lacking : (i : ℕ) → LacksAt rows k line i → ((j : ℕ) → j < i → ¬ (LacksAt rows k line j)) → read_of line room ≡ Err (Why.LineLacks i)
    as_lacking i l n = answer_lacks line room rows k (of_form_formed line rows k f) i (by (first_fail (has_byte rows k line) (length line) 0) (scanned (has_byte rows k line) (length line) 0))
      where
        by : (x : Option ℕ) → Scanned (has_byte rows k line) (length line) 0 x → x ≡ Some i
        by x (clean h) = absurd (clash (h i (omega arith) (omega (arith, lacks_in rows k line f i l))) (lacks_fails rows k line i l))
        by x (failed j a b e h) = ap Some (same (by_test (ltb j i) (λ t. absurd (n j (ltb-true _ _ t) (fails_lacks rows k line f j (omega arith) e))) (λ t. ltb-false j i t)) (by_test (ltb i j) (λ t. absurd (clash (h i (omega arith) (ltb-true _ _ t)) (lacks_fails rows k line i l))) (λ t. ltb-false i j t)))
          where
            same : i ≤ j → j ≤ i → j ≡ i
            same u v = omega arith

    pub as_good : ((i : ℕ) → ¬ (LacksAt rows k line i)) → read_of line room ≡ room_for rows k room
    as_good n = answer_has line room rows k (of_form_formed line rows k f) (clean_none (has_byte rows k line) (length line) 0 holds)
      where
        holds : (j : ℕ) → 0 ≤ j → j < 0 + length line → has_byte rows k line j ≡ true
        holds j a b = by_test (has_byte rows k line j) (λ t. t) (λ t. absurd (n j (fails_lacks rows k line f j (omega arith) t)))

  -- ---- what the line is, from the answer

  pub data Answer : Result Machine Refusal → Type 0 where
    malformed : (i : ℕ) → MalformedAt line i → Answer (Err (Why.MalformedLine i))
    lacking : (i : ℕ) → FirstLacking line i → Answer (Err (Why.LineLacks i))
    short : (rows k : ℕ) → GoodLine rows k line → room < table_size rows k → Answer (Err Why.OutputSize)
    good : (rows k : ℕ) → GoodLine rows k line → table_size rows k ≤ room → Answer (Ok (machine_of rows k))

  answer_room : (rows k : ℕ) → GoodLine rows k line → Answer (room_for rows k room)
  answer_room rows k g = pick_cases (leb (table_size rows k) room) (Ok (machine_of rows k)) (Err Why.OutputSize) Answer
      (λ e. good rows k g (leb-true _ _ e)) (λ e. short rows k g (leb-false _ _ e))

  answer_formed : (rows k : ℕ) → form_of line ≡ Ok (rows, k) → Answer (read_of line room)
  answer_formed rows k formed = by (first_fail (has_byte rows k line) (length line) 0) refl (scanned (has_byte rows k line) (length line) 0)
    where
      f : OfForm rows k line
      f = formed_of_form line rows k formed

      by : (x : Option ℕ) → first_fail (has_byte rows k line) (length line) 0 ≡ x → Scanned (has_byte rows k line) (length line) 0 x → Answer (read_of line room)
      by x p (clean h) = subst Answer (sym (answer_has line room rows k formed p))
          (answer_room rows k (record { of_form = f; has = λ i l. clash (h i (omega arith) (omega (arith, lacks_in rows k line f i l))) (lacks_fails rows k line i l) }))
      by x p (failed j a b e h) = subst Answer (sym (answer_lacks line room rows k formed j p)) (lacking j (record {
        rows = rows;
        symbols = k;
        of_form = f;
        lacks = fails_lacks rows k line f j (omega arith) e;
        first = λ i l t. clash (h i (omega arith) l) (lacks_fails rows k line i t);
      }))

  pub answer : Answer (read_of line room)
  answer = by (form_of line) refl
    where
      by : (x : Result (ℕ × ℕ) ℕ) → form_of line ≡ x → Answer (read_of line room)
      by (Err i) e = subst Answer (sym (answer_malformed line room i e)) (malformed i (place_right line i e))
      by (Ok (rows, k)) e = answer_formed rows k e

-- ---- the table that is written

module _ (rows k : ℕ) (line table : List ℕ) (g : GoodLine rows k line) (room : table_size rows k ≤ length table) where
  abbrev out : List ℕ
  out = read_into line table

  pub read_answers : read_of line (length table) ≡ Ok (machine_of rows k)
  read_answers = as_good line (length table) rows k g.of_form g.has ∙ pick_true (leb (table_size rows k) (length table)) (Ok (machine_of rows k)) (Err Why.OutputSize) (le-leb _ _ room)

  out_is : out ≡ fill_from (table_byte rows k line) (table_size rows k) 0 table
  unfolding read_into
  out_is = ap (λ (r : Result Machine Refusal). read_on r line table) read_answers ∙ ap (λ (n : ℕ). fill_from (table_byte n k line) (table_size rows k) 0 table) less
    where
      less : rows + 1 - 1 ≡ rows
      less = omega arith

  pub read_length : length out ≡ length table
  read_length = ap length out_is ∙ length_fill (table_byte rows k line) (table_size rows k) 0 table

  pub read_rest : (j : ℕ) → table_size rows k ≤ j → get_or out j 0 ≡ get_or table j 0
  read_rest j h = ap (λ (l : List ℕ). get_or l j 0) out_is ∙ fill_past (table_byte rows k line) (table_size rows k) 0 table j 0 (omega arith)

  -- the table alone
  abbrev pub table_in : List ℕ
  table_in = take (table_size rows k) out

  pub size_is : length table_in ≡ table_size rows k
  size_is = length-take-le (table_size rows k) out (omega (arith, read_length))

  pub bytes_are : (i j : ℕ) → i < (rows + 1) * k → j < 8 → byte_at table_in i j ≡ get_or (entry_bytes (entry_in rows k line i)) j 0
  unfolding table_byte
  bytes_are i j h l =
      let b : 8 * i + j < table_size rows k = omega arith in
      let q : (8 * i + j) / 8 ≡ i = omega arith in
      let r : (8 * i + j) % 8 ≡ j = omega arith in
      get_or-take (table_size rows k) out (8 * i + j) 0 b
      ∙ ap (λ (x : List ℕ). get_or x (8 * i + j) 0) out_is
      ∙ fill_in (table_byte rows k line) (table_size rows k) 0 table (8 * i + j) 0 (omega arith) (omega arith) (omega arith)
      ∙ ap (λ (n : ℕ). get_or (entry_bytes (entry_in rows k line n)) ((8 * i + j) % 8) 0) q
      ∙ ap (λ (n : ℕ). get_or (entry_bytes (entry_in rows k line i)) n 0) r

  pub entry_at_lem : (i : ℕ) → i < (rows + 1) * k → entry_at table_in i ≡ entry_in rows k line i
  entry_at_lem i h = entry_read table_in i (entry_in rows k line i) (let e = size_is in omega arith) (λ j l. bytes_are i j h l)

  -- entry a of row q is that of the line's bytes
  entry_text_lem : (q a : ℕ) → q < rows → a < k
      → entry_in rows k line (q * k + a) ≡ entry_of rows (get_or line (place k q a) 0) (get_or line (place k q a + 1) 0) (get_or line (place k q a + 2) 0)
  unfolding entry_in
  entry_text_lem q a h l =
      pick_true _ _ _ (lt-ltb (q * k + a) (rows * k) (row_in k rows q a h l))
      ∙ ap (λ (p : ℕ). entry_of rows (get_or line p 0) (get_or line (p + 1) 0) (get_or line (p + 2) 0)) (text_place_lem k q a l)

  digit_has : (q a : ℕ) → q < rows → a < k → ¬ (LacksDigit k (get_or line (place k q a) 0))
  digit_has q a h l n = g.has (place k q a) (q, a, h, l, inl (refl, n))

  letter_has : (q a : ℕ) → q < rows → a < k → ¬ (LacksLetter rows (get_or line (place k q a + 2) 0))
  letter_has q a h l n = g.has (place k q a + 2) (q, a, h, l, inr (refl, n))

  -- "what its columns say"
  pub table_says : (q a : ℕ) → q < rows → a < k → SaysAt rows k line table_in q a
  table_says q a h l =
      let i = row_in k rows q a h l in
      let e = entry_at_lem (q * k + a) (omega arith) ∙ entry_text_lem q a h l in
      subst (Says rows (get_or line (place k q a) 0) (get_or line (place k q a + 1) 0) (get_or line (place k q a + 2) 0)) (sym e)
      (read_says rows _ _ _ (g.of_form.entries q a h l) (letter_has q a h l))

  -- "the reader always adds its row, last and all undefined"
  pub last_undefined : (a : ℕ) → a < k → entry_at table_in (rows * k + a) ≡ None
  unfolding entry_in
  last_undefined a h = entry_at_lem (rows * k + a) (omega arith) ∙ pick_false _ _ _ (le-ltb (rows * k + a) (rows * k) (omega arith))

  pub of_machine : (i : ℕ) → i < (rows + 1) * k → EntryOf (machine_of rows k) (entry_in rows k line i)
  unfolding entry_in
  of_machine i h = by_test (ltb i (rows * k)) (λ t. inside (ltb-true _ _ t)) (λ t. subst (EntryOf (machine_of rows k)) (sym (past t)) tt)
    where
      past : ltb i (rows * k) ≡ false → entry_in rows k line i ≡ None
      past t = pick_false _ _ _ t

      Some : 0 < k
      Some = omega (arith, g.of_form.symbols_are.0)

      inside : i < rows * k → EntryOf (machine_of rows k) (entry_in rows k line i)
      inside l =
          let q = i / k in
          let a = i % k in
          let x = row_below k rows i Some l in
          let y = mod-lt i Some in
          let e : entry_in rows k line i ≡ entry_of rows (get_or line (place k q a) 0) (get_or line (place k q a + 1) 0) (get_or line (place k q a + 2) 0) = ap (entry_in rows k line) (sym (number_is k i Some)) ∙ entry_text_lem q a x y in
          subst (EntryOf (machine_of rows k)) (sym e)
          (read_of_machine (machine_of rows k) rows _ _ _ refl refl (g.of_form.entries q a x y) (digit_has q a x y) (letter_has q a x y) Some)

  -- "an accepted line gives a table that the check accepts"
  pub table_well : WellFormed (machine_of rows k) table_in
  table_well = all
    where
      f : OfForm rows k line
      f = g.of_form

      one : k ^ 1 ≡ k
      one = sym (stride_one 1 k refl)

      all : WellFormed (machine_of rows k) table_in
      all zero = tt
      all (suc zero) = (omega arith, omega arith)
      all (suc (suc zero)) = (omega (arith, f.symbols_are.0), omega (arith, f.symbols_are.1))
      all (suc (suc (suc zero))) = (omega arith, omega (arith, f.rows_are.1))
      all (suc (suc (suc (suc zero)))) = omega arith
      all (suc (suc (suc (suc (suc zero))))) = size_is ∙ ap (λ (n : ℕ). 8 * ((rows + 1) * n)) (sym one)
      all (suc (suc (suc (suc (suc (suc zero)))))) = λ i h.
          let b : i < (rows + 1) * k = subst (λ (n : ℕ). i < (rows + 1) * n) one h in
          record { entry = entry_in rows k line i; of_machine = of_machine i b; written = λ j l. bytes_are i j b l }
      all (suc (suc (suc (suc (suc (suc (suc n))))))) = tt
