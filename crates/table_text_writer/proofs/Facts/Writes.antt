-- WRITING: what the writer answers, and the line that it writes. Assumes nothing.
use Rattle.outcome.specs.declared.Refusal.{Refusal}
use Rattle.machine.specs.declared.Action.{Action}
use Rattle.std.specs.Prelude.{◌≡◌, refl, List, ℕ, ◌+◌, ◌*◌, ◌/◌, ◌%◌, ◌≤◌, ◌<◌, leb, length, get_or, take, Err, None, Ok, Option, Result, Some}
use Rattle.std.proofs.Common.{sym, subst, ◌∙◌, inl, inr, mul-le-mul, eq-eqb, ne_eqb, le-leb, length-take-le, get_or-take}
use Rattle.std.proofs.Math.Path.{ap}
use Rattle.std.proofs.Math.Bool.{false}
use native.Mathlib.Omega.{arith}
use Rattle.std.proofs.lemmas.Bool.{lt-leb}
use Rattle.notation.specs.Choice.{pick}
use Rattle.notation.specs.Fill.{fill_from}
use Rattle.notation.proofs.Facts.Fill.{length_fill, fill_in, fill_past}
use Rattle.notation.proofs.Facts.Tests.{by_test, pick_true, pick_false}
use Rattle.outcome.specs.declared.Refusal.TheVariants as Why
use Rattle.machine.specs.declared.Machine.{Machine}
use Rattle.machine.specs.Layout.{entry_at}
use Rattle.table_laws.specs.WellFormed.{EntryOf, WellFormed}
use Rattle.table_laws.proofs.Facts.CheckExact.{table_check_accepts}
use Rattle.table_laws.proofs.Facts.Reading.{entry_of_machine}
use Rattle.table_text_form.specs.Line.{place}
use Rattle.table_text_form.proofs.Facts.Places.{place_row, place_col, place_in, row_in}
use Rattle.table_text_rows.specs.Rows.{lettered_rows, has_line}
use Rattle.table_text_rows.specs.Meaning.{HasLine}
use Rattle.table_text_rows.proofs.Facts.Rows.{lettered_states, line_says, rows_is, line_holds}
use Rattle.table_text_reader.specs.Meaning.{LacksDigit, LacksLetter, LacksAt, GoodLine, Says, SaysAt}
use Rattle.table_text_reader.proofs.Facts.Columns.{bar_col}
use Rattle.table_text_reader.proofs.Facts.Texts.{says_form, says_letter, says_digit}
use Rattle.table_text_writer.specs.Writing.{entry_text, line_byte, line_size, write_of, write_on, write_into}
use Rattle.table_text_writer.proofs.Facts.Texts.{HasText, write_says}

-- ---- the answer for a table that the check accepts

module _ (m : Machine) (s : List ℕ) (w : WellFormed m s) (room : ℕ) where
  pub as_none : ((z : ℕ) → ¬ (HasLine m s z)) → write_of m s room ≡ Err Why.NoLine
  unfolding write_of pick
  as_none n =
      let e : has_line m s ≡ false = by_test (has_line m s) (λ t. absurd (n (lettered_rows m s) (line_says m s t))) (λ t. t) in
      rw (table_check_accepts m s w, e)

  module _ (z : ℕ) (h : HasLine m s z) where
    as_line : write_of m s room ≡ pick (leb (line_size z m.symbols) room) (Ok (line_size z m.symbols)) (Err Why.OutputSize)
    unfolding write_of pick
    as_line = rw (table_check_accepts m s w, line_holds m s z h, rows_is m s z h)

    pub as_short : room < line_size z m.symbols → write_of m s room ≡ Err Why.OutputSize
    as_short l = as_line ∙ pick_false _ _ _ (lt-leb _ _ l)

    pub as_written : line_size z m.symbols ≤ room → write_of m s room ≡ Ok (line_size z m.symbols)
    as_written l = as_line ∙ pick_true _ _ _ (le-leb _ _ l)

-- ---- the line that is written

module _ (m : Machine) (s : List ℕ) (w : WellFormed m s) (z : ℕ) (h : HasLine m s z) (line : List ℕ) (room : line_size z m.symbols ≤ length line) where
  abbrev k : ℕ
  k = m.symbols

  abbrev size : ℕ
  size = line_size z k

  abbrev out : List ℕ
  out = write_into m s line

  out_is : out ≡ fill_from (line_byte z k s) size 0 line
  unfolding write_into
  out_is = ap (λ (x : Result ℕ Refusal). write_on x m s line) (as_written m s w (length line) z h room)
      ∙ ap (λ (n : ℕ). fill_from (line_byte n k s) size 0 line) (rows_is m s z h)

  pub write_length : length out ≡ length line
  write_length = ap length out_is ∙ length_fill (line_byte z k s) size 0 line

  pub write_rest : (p : ℕ) → size ≤ p → get_or out p 0 ≡ get_or line p 0
  write_rest p l = ap (λ (x : List ℕ). get_or x p 0) out_is ∙ fill_past (line_byte z k s) size 0 line p 0 (omega arith)

  -- the line alone
  abbrev pub line_in : List ℕ
  line_in = take size out

  pub line_size_holds : length line_in ≡ size
  line_size_holds = length-take-le size out (omega (arith, write_length))

  whole : size + 1 ≡ z * (3 * k + 1)
  whole = let l : 1 * 1 ≤ z * (3 * k + 1) = mul-le-mul {n₁ = 1} {m₁ = 1} h.rows_are.0 (omega arith) in omega arith

  byte_is : (p : ℕ) → p < size → get_or line_in p 0 ≡ line_byte z k s p
  byte_is p l =
      get_or-take size out p 0 l ∙ ap (λ (x : List ℕ). get_or x p 0) out_is ∙ fill_in (line_byte z k s) size 0 line p 0 (omega arith) (omega arith) (omega arith)

  -- byte j of the text of entry a of row q
  module _ (q a : ℕ) (row : q < z) (col : a < k) where
    entry_byte : (j : ℕ) → j < 3 → get_or line_in (place k q a + j) 0 ≡ entry_text z (entry_at s (q * k + a)) j
    unfolding line_byte
    entry_byte j l =
        let b = place_in k q a col z size row whole in
        let r = place_row k q a col j l in
        let c = place_col k q a col j l in
        let d : (3 * a + j) / 3 ≡ a = omega arith in
        let e : (3 * a + j) % 3 ≡ j = omega arith in
        byte_is (place k q a + j) (omega arith)
        ∙ pick_false _ _ _ (ne_eqb _ _ (λ (x : (place k q a + j) % (3 * k + 1) ≡ 3 * k). omega arith))
        ∙ ap (λ (n : ℕ). entry_text z (entry_at s (n * k + (place k q a + j) % (3 * k + 1) / 3)) ((place k q a + j) % (3 * k + 1) % 3)) r
        ∙ ap (λ (n : ℕ). entry_text z (entry_at s (q * k + n / 3)) (n % 3)) c
        ∙ ap (λ (n : ℕ). entry_text z (entry_at s (q * k + n)) ((3 * a + j) % 3)) d
        ∙ ap (entry_text z (entry_at s (q * k + a))) e

    first_byte : get_or line_in (place k q a) 0 ≡ entry_text z (entry_at s (q * k + a)) 0
    first_byte = let e : place k q a ≡ place k q a + 0 = omega arith in ap (λ (n : ℕ). get_or line_in n 0) e ∙ entry_byte 0 (omega arith)

    -- the entry is one of the machine
    pub entry_fits : EntryOf m (entry_at s (q * k + a))
    entry_fits = entry_of_machine m s w (q * k + a)

    states : z ≤ m.states × m.states ≤ z + 1
    states = lettered_states m s z h.lettered

    has_text : HasText z (entry_at s (q * k + a))
    has_text = by (entry_at s (q * k + a)) refl (entry_fits)
      where
        by : (e : Option Action) → entry_at s (q * k + a) ≡ e → EntryOf m e → HasText z e
        by None p o = tt
        by (Some x) p o = (h.moves (q * k + a) x (row_in k m.states q a (omega (arith, states.0)) col) p, omega (arith, o.next_in, states.1))

    pub line_says_entry : SaysAt z k line_in s q a
    line_says_entry =
        let e = entry_at s (q * k + a) in
        subst (λ (x : ℕ). Says z x (get_or line_in (place k q a + 1) 0) (get_or line_in (place k q a + 2) 0) e) (sym first_byte)
        (subst (λ (y : ℕ). Says z (entry_text z e 0) y (get_or line_in (place k q a + 2) 0) e) (sym (entry_byte 1 (omega arith)))
        (subst (λ (c : ℕ). Says z (entry_text z e 0) (entry_text z e 1) c e) (sym (entry_byte 2 (omega arith)))
        (write_says z e has_text)))

    low_digit : get_or line_in (place k q a) 0 ≤ 57
    low_digit = by (entry_at s (q * k + a)) entry_fits line_says_entry
      where
        by : (e : Option Action) → EntryOf m e → Says z (get_or line_in (place k q a) 0) (get_or line_in (place k q a + 1) 0) (get_or line_in (place k q a + 2) 0) e → get_or line_in (place k q a) 0 ≤ 57
        by None o t = omega (arith, t.0)
        by (Some x) o t = omega (arith, t.0, o.write0_in, h.symbols_are.1)

  pub line_parted : (q : ℕ) → q + 1 < z → get_or line_in (place k q k) 0 ≡ 95
  unfolding line_byte
  line_parted q l =
      let b = row_in (3 * k + 1) z (q + 1) 0 l (omega arith) in
      let c = bar_col k q in
      byte_is (place k q k) (omega (arith, whole)) ∙ pick_true _ _ _ (eq-eqb _ _ c)

  pub line_good : GoodLine z k line_in
  line_good = record {
    of_form = record {
      symbols_are = h.symbols_are;
      rows_are = h.rows_are;
      size = ap (λ (n : ℕ). n + 1) line_size_holds ∙ whole;
      entries = λ q a u v. says_form z _ _ _ (entry_at s (q * k + a)) h.rows_are.1 (line_says_entry q a u v) (low_digit q a u v);
      parted = line_parted;
    };
    has = none;
  }
    where
      none : (i : ℕ) → ¬ (LacksAt z k line_in i)
      none i (q, a, u, v, inl d) = says_digit m z _ _ _ (entry_at s (q * k + a)) (entry_fits q a u v) (line_says_entry q a u v) (subst (λ (n : ℕ). LacksDigit k (get_or line_in n 0)) d.0 d.1)
      none i (q, a, u, v, inr d) = says_letter z _ _ _ (entry_at s (q * k + a)) (line_says_entry q a u v) (subst (λ (n : ℕ). LacksLetter z (get_or line_in n 0)) d.0 d.1)
