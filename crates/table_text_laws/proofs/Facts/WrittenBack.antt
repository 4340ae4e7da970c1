-- READING THEN WRITING gives the line. Assumes nothing.
use Rattle.std.specs.Prelude.{◌≡◌, refl, List, ℕ, zero, suc, ◌+◌, ◌-◌, ◌*◌, ◌/◌, ◌%◌, ◌≤◌, ◌<◌, ltb, length, get_or, take, None, Option, Some}
use Rattle.std.proofs.Common.{sym, ap, subst, ◌∙◌, inl, mod-lt, arith, ltb-true, ltb-false, ext_get_or}
use Rattle.notation.proofs.Facts.Tests.{by_test}
use Rattle.symbol.specs.declared.Dir.TheVariants.{N}
use Rattle.machine.specs.declared.Machine.{Machine}
use Rattle.machine.specs.declared.Action.{Action}
use Rattle.machine.specs.Layout.{entry_at}
use Rattle.table_laws.specs.WellFormed.{WellFormed}
use Rattle.table_text_form.specs.Line.{place}
use Rattle.table_text_form.proofs.Facts.Places.{number_is, row_below}
use Rattle.table_text_rows.specs.Meaning.{HasLine}
use Rattle.table_text_reader.specs.Reading.{machine_of, table_size, read_into}
use Rattle.table_text_reader.specs.Meaning.{GoodLine, DashedRow, MoveOf, Says, SaysAt}
use Rattle.table_text_reader.proofs.Facts.Columns.{Column, byte, bar, column}
use Rattle.table_text_reader.proofs.Facts.Texts.{same_text}
use Rattle.table_text_reader.proofs.Facts.Reads as Reads
use Rattle.table_text_writer.specs.Writing.{line_size, write_into}
use Rattle.table_text_writer.proofs.Facts.Writes as Writes

no_move : (y : ℕ) (a : Action) → MoveOf y a.dir0 → ¬ (a.dir0 ≡ N)
no_move y a h e = subst (MoveOf y) e h

-- ---- a table that was read has a line

module _ (rows k : ℕ) (line table : List ℕ) (g : GoodLine rows k line) (room : table_size rows k ≤ length table) (named : (q : ℕ) → q < rows → ¬ (DashedRow k line q)) where
  abbrev m : Machine
  m = machine_of rows k

  abbrev s : List ℕ
  s = take (table_size rows k) (read_into line table)

  some : 0 < k
  some = omega (arith, g.of_form.symbols_are.0)

  says : (q a : ℕ) → q < rows → a < k → SaysAt rows k line s q a
  says = Reads.table_says rows k line table g room

  dashed : (x y c : ℕ) (e : Option Action) → Says rows x y c e → e ≡ None → (x ≡ 45) × (y ≡ 45) × (c ≡ 45)
  dashed x y c e h p = subst (Says rows x y c) p h

  moves : (i : ℕ) (a : Action) → i < (rows + 1) * k → entry_at s i ≡ Some a → ¬ (a.dir0 ≡ N)
  moves i a h e = by_test (ltb i (rows * k)) (λ t. inside (ltb-true _ _ t)) (λ t. absurd (past (ltb-false _ _ t)))
    where
      inside : i < rows * k → ¬ (a.dir0 ≡ N)
      inside l =
          let x = says (i / k) (i % k) (row_below k rows i some l) (mod-lt i some) in
          let p = ap (entry_at s) (number_is k i some) ∙ e in
          no_move _ a (subst (Says rows _ _ _) p x).1

      past : rows * k ≤ i → ⊥
      past l =
          let p : rows * k + (i - rows * k) ≡ i = omega arith in
          let u = Reads.last_undefined rows k line table g room (i - rows * k) (omega arith) in
          let z : None ≡ Some a = sym u ∙ ap (entry_at s) p ∙ e in
          let y : ◌≡◌ {A = ℕ} 0 1 = cc in
          omega arith

  pub read_has_line : HasLine m s rows
  read_has_line = record {
    one_tape_holds = refl;
    symbols_are = g.of_form.symbols_are;
    lettered = inl (refl, λ a h. Reads.last_undefined rows k line table g room a h);
    rows_are = g.of_form.rows_are;
    start_is = refl;
    moves = moves;
    before_last = λ q h u. named q (omega arith) (λ a l. dashed _ _ _ _ (says q a (omega arith) l) (u a l));
  }

  pub read_well : WellFormed m s
  read_well = Reads.table_well rows k line table g room

  -- "is written back as it came"
  module _ (out : List ℕ) (enough : length line ≤ length out) where
    same_size : line_size rows k ≡ length line
    same_size = let e = g.of_form.size in omega arith

    fits : line_size rows k ≤ length out
    fits = omega (arith, same_size)

    abbrev back : List ℕ
    back = take (line_size rows k) (write_into m s out)

    same_bytes : (q a : ℕ) → q < rows → a < k
        → (get_or back (place k q a) 0 ≡ get_or line (place k q a) 0) × (get_or back (place k q a + 1) 0 ≡ get_or line (place k q a + 1) 0) × (get_or back (place k q a + 2) 0 ≡ get_or line (place k q a + 2) 0)
    same_bytes q a u v = same_text rows _ _ _ _ _ _ (entry_at s (q * k + a)) (Writes.line_says_entry m s read_well rows read_has_line out fits q a u v) (says q a u v)

    pub written_back : back ≡ line
    written_back = ext_get_or 0 back line (Writes.line_size_holds m s read_well rows read_has_line out fits ∙ same_size) (λ i h. at i (column rows k (length back) i (let e = g.of_form.size in let l = Writes.line_size_holds m s read_well rows read_has_line out fits in omega (arith, same_size)) h))
      where
        at : (i : ℕ) → Column rows k i → get_or back i 0 ≡ get_or line i 0
        at i (byte q a zero u v w x) = let e : i ≡ place k q a = omega arith in subst (λ (n : ℕ). get_or back n 0 ≡ get_or line n 0) (sym e) (same_bytes q a u v).0
        at i (byte q a (suc zero) u v w x) = subst (λ (n : ℕ). get_or back n 0 ≡ get_or line n 0) (sym x) (same_bytes q a u v).1
        at i (byte q a (suc (suc zero)) u v w x) = subst (λ (n : ℕ). get_or back n 0 ≡ get_or line n 0) (sym x) (same_bytes q a u v).2
        at i (byte q a (suc (suc (suc j))) u v w x) = absurd (omega arith)
        at i (bar q u x) = subst (λ (n : ℕ). get_or back n 0 ≡ get_or line n 0) (sym x) (Writes.line_parted m s read_well rows read_has_line out fits q u ∙ sym (g.of_form.parted q u))
