-- WRITING THEN READING gives the table. Assumes nothing.
use Rattle.machine.specs.declared.Action.{Action}
use Rattle.std.specs.Prelude.{◌≡◌, List, ℕ, ◌+◌, ◌-◌, ◌*◌, ◌/◌, ◌%◌, ◌^◌, ◌≤◌, ◌<◌, ltb, length, get_or, take, Option}
use Rattle.std.proofs.Common.{sym, ap, subst, ◌∙◌, mod-lt, arith, ltb-true, ltb-false, ext_get_or}
use Rattle.notation.proofs.Facts.Tests.{by_test}
use Rattle.machine.specs.declared.Machine.{Machine}
use Rattle.machine.proofs.Facts.CheckCases.{stride_one}
use Rattle.machine.specs.Layout.{entry_count, byte_at, entry_at}
use Rattle.table_laws.specs.WellFormed.{entry_bytes, EntryOf, LaidOut, WellFormed}
use Rattle.table_laws.proofs.Facts.Reading.{entry_read, entry_of_machine}
use Rattle.table_text_form.proofs.Facts.Places.{number_is, row_below}
use Rattle.table_text_rows.specs.Meaning.{RowUndefined, HasLine}
use Rattle.table_text_reader.specs.Reading.{machine_of, table_size, read_into}
use Rattle.table_text_reader.specs.Meaning.{GoodLine}
use Rattle.table_text_reader.proofs.Facts.Texts.{same-entry}
use Rattle.table_text_reader.proofs.Facts.Reads as Reads
use Rattle.table_text_writer.specs.Writing.{line_size, write_into}
use Rattle.table_text_writer.proofs.Facts.Writes as Writes

module _ (m : Machine) (s : List ℕ) (w : WellFormed m s) (z : ℕ) (h : HasLine m s z) (last : z + 1 ≡ m.states) (undefined : RowUndefined m.symbols s z)
    (line : List ℕ) (fits : line_size z m.symbols ≤ length line) (table : List ℕ) (room : length s ≤ length table) where
  abbrev k : ℕ
  k = m.symbols

  abbrev written : List ℕ
  written = take (line_size z k) (write_into m s line)

  good : GoodLine z k written
  good = Writes.line_good m s w z h line fits

  pub same_machine : machine_of z k ≡ m
  same_machine =
      let a = h.one_tape_holds in
      let b = h.start_is in
      λ i. record {
        tapes = sym a i;
        symbols = k;
        states = last i;
        start = sym b i;
      }

  count_is : entry_count m ≡ (z + 1) * k
  count_is = ap (λ (n : ℕ). n * k ^ m.tapes) (sym last) ∙ ap (λ (n : ℕ). (z + 1) * n) (sym (stride_one m.tapes k h.one_tape_holds))

  pub same_size : length s ≡ table_size z k
  same_size = w 5 ∙ ap (λ (n : ℕ). 8 * n) count_is

  enough : table_size z k ≤ length table
  enough = omega (arith, same_size)

  abbrev again : List ℕ
  again = take (table_size z k) (read_into written table)

  some : 0 < k
  some = omega (arith, h.symbols_are.0)

  same_entries : (i : ℕ) → i < (z + 1) * k → entry_at s i ≡ entry_at again i
  same_entries i l = by_test (ltb i (z * k)) (λ t. inside (ltb-true _ _ t)) (λ t. past (ltb-false _ _ t))
    where
      inside : i < z * k → entry_at s i ≡ entry_at again i
      inside b =
          let q = i / k in
          let a = i % k in
          let u = row_below k z i some b in
          let v = mod-lt i some in
          let n = number_is k i some in
          let o : EntryOf m (entry_at again (q * k + a)) = subst (λ (x : Machine). EntryOf x (entry_at again (q * k + a))) same_machine (entry_of_machine (machine_of z k) again (Reads.table_well z k written table good enough) (q * k + a)) in
          let e = same-entry m z _ _ _ (entry_at s (q * k + a)) (entry_at again (q * k + a)) h.one_tape_holds h.rows_are.1 (entry_of_machine m s w (q * k + a)) o
          (Writes.line_says_entry m s w z h line fits q a u v) (Reads.table_says z k written table good enough q a u v) in
          ap (entry_at s) (sym n) ∙ e ∙ ap (entry_at again) n

      past : z * k ≤ i → entry_at s i ≡ entry_at again i
      past b =
          let a = i - z * k in
          let n : z * k + a ≡ i = omega arith in
          ap (entry_at s) (sym n) ∙ undefined a (omega arith) ∙ sym (Reads.last_undefined z k written table good enough a (omega arith)) ∙ ap (entry_at again) n

  -- the bytes of an entry of a well-formed table
  laid : (i j : ℕ) → i < (z + 1) * k → j < 8 → byte_at s i j ≡ get_or (entry_bytes (entry_at s i)) j 0
  laid i j l b =
      let x : LaidOut m s i = w 6 i (subst (λ (n : ℕ). i < n) (sym count_is) l) in
      let e : entry_at s i ≡ x.entry = entry_read s i x.entry (let n = same_size in omega arith) x.written in
      x.written j b ∙ ap (λ (y : Option Action). get_or (entry_bytes y) j 0) (sym e)

  same_bytes : (i j : ℕ) → i < (z + 1) * k → j < 8 → byte_at s i j ≡ byte_at again i j
  same_bytes i j l b =
      laid i j l b ∙ ap (λ (y : Option Action). get_or (entry_bytes y) j 0) (same_entries i l ∙ Reads.entry_at_lem z k written table good enough i l)
      ∙ sym (Reads.bytes_are z k written table good enough i j l b)

  pub read_back : again ≡ s
  read_back = sym (ext_get_or 0 s again (same_size ∙ sym (Reads.size_is z k written table good enough)) (λ p l.
      let i = p / 8 in
      let j = p % 8 in
      let n : 8 * i + j ≡ p = omega arith in
      let e = same_size in
      subst (λ (x : ℕ). get_or s x 0 ≡ get_or again x 0) n (same_bytes i j (omega arith) (omega arith))))
