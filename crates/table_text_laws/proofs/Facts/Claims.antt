-- What an accepted reading and an accepted writing leave, and that each undoes the other. Assumes nothing.
use Rattle.std.specs.Prelude.{◌≡◌, refl, List, ℕ, ◌+◌, ◌-◌, ◌*◌, ◌≤◌, ◌<◌, length, take, Ok}
use Rattle.std.proofs.Common.{sym, ap, subst, ◌∙◌, inl, inr, mul-le-mul, arith}
use Rattle.machine.specs.declared.Machine.{Machine}
use Rattle.table_laws.specs.WellFormed.{WellFormed}
use Rattle.table_laws.proofs.Facts.CheckExact.{table_check_accepts}
use Rattle.table_text_rows.specs.Meaning.{RowUndefined, Lettered, HasLine}
use Rattle.table_text_reader.specs.Reading.{machine_of, table_size, read_of, read_into}
use Rattle.table_text_reader.specs.Meaning.{GoodLine, DashedRow}
use Rattle.table_text_reader.proofs.Facts.Exact.{read_exact}
use Rattle.table_text_reader.proofs.Facts.Reads as Reads
use Rattle.table_text_writer.specs.Writing.{line_size, write_of, write_into}
use Rattle.table_text_writer.proofs.Facts.Exact.{written_exact}
use Rattle.table_text_writer.proofs.Facts.Writes as Writes
use Rattle.table_text_laws.specs.Claims.{table_of, TableRead, LineWritten}
use Rattle.table_text_laws.proofs.Facts.WrittenBack as WrittenBack
use Rattle.table_text_laws.proofs.Facts.ReadBack as ReadBack

-- ---- reading

read_as_lem : (rows k : ℕ) (line table : List ℕ) → GoodLine rows k line → table_size rows k ≤ length table → TableRead line table (machine_of rows k)
read_as_lem rows k line table g h = record {
  rows = rows;
  line_is = g;
  one_tape_holds = refl;
  states_are = refl;
  start_is = refl;
  room = h;
  same_length = Reads.read_length rows k line table g h;
  rest = Reads.read_rest rows k line table g h;
  accepted = table_check_accepts _ _ (Reads.table_well rows k line table g h);
  well_formed = Reads.table_well rows k line table g h;
  says = Reads.table_says rows k line table g h;
  last_row = Reads.last_undefined rows k line table g h;
}

pub table_read : (line table : List ℕ) (m : Machine) → read_of line (length table) ≡ Ok m → TableRead line table m
table_read line table m e =
    let (rows, k, g, h, p) = (read_exact line (length table) m).0 e in
    subst (TableRead line table) (sym p) (read_as_lem rows k line table g h)

-- ---- writing

module _ (m : Machine) (s : List ℕ) (w : WellFormed m s) (line : List ℕ) where
  written_as : (z : ℕ) → HasLine m s z → line_size z m.symbols ≤ length line → LineWritten m s line (line_size z m.symbols)
  written_as z h l = record {
    rows = z;
    has = h;
    size = (let p : 1 * 1 ≤ z * (3 * m.symbols + 1) = mul-le-mul {n₁ = 1} {m₁ = 1} h.rows_are.0 (omega arith) in omega arith);
    room = l;
    same_length = Writes.write_length m s w z h line l;
    rest = Writes.write_rest m s w z h line l;
    line_is = Writes.line_good m s w z h line l;
    says = Writes.line_says_entry m s w z h line l;
  }

  pub line_written : (n : ℕ) → write_of m s (length line) ≡ Ok n → LineWritten m s line n
  line_written n e =
      let (z, h, l, p) = (written_exact m s w (length line) n).0 e in
      subst (LineWritten m s line) (sym p) (written_as z h l)

-- ---- read, then written

-- the row q of the line that was read is `---` throughout
back_as : (rows k : ℕ) (line table out : List ℕ) → GoodLine rows k line → table_size rows k ≤ length table → ((q : ℕ) → q + 1 < rows + 1 → ¬ (DashedRow k line q)) → length line ≤ length out
    → (write_of (machine_of rows k) (table_of (machine_of rows k) line table) (length out) ≡ Ok (length line)) × (take (length line) (write_into (machine_of rows k) (table_of (machine_of rows k) line table) out) ≡ line)
back_as rows k line table out g h n l =
    let named : (q : ℕ) → q < rows → ¬ (DashedRow k line q) = λ q b. n q (omega arith) in
    let f = g.of_form.size in
    let p : line_size rows k ≡ length line = omega arith in
    let w = WrittenBack.read_well rows k line table g h named in
    let x = WrittenBack.read_has_line rows k line table g h named in (
      Writes.as_written _ _ w (length out) rows x (omega arith) ∙ ap Ok p,
      ap (λ (i : ℕ). take i (write_into (machine_of rows k) (table_of (machine_of rows k) line table) out)) (sym p) ∙ WrittenBack.written_back rows k line table g h named out l,
    )

pub written_back : (line table out : List ℕ) (m : Machine) → read_of line (length table) ≡ Ok m → ((q : ℕ) → q + 1 < m.states → ¬ (DashedRow m.symbols line q)) → length line ≤ length out
    → (write_of m (table_of m line table) (length out) ≡ Ok (length line)) × (take (length line) (write_into m (table_of m line table) out) ≡ line)
written_back line table out m e n l =
    let (rows, k, g, h, p) = (read_exact line (length table) m).0 e in
    let q = subst (λ (x : Machine). (i : ℕ) → i + 1 < x.states → ¬ (DashedRow x.symbols line i)) p n in
    subst (λ (x : Machine). (write_of x (table_of x line table) (length out) ≡ Ok (length line)) × (take (length line) (write_into x (table_of x line table) out) ≡ line)) (sym p)
    (back_as rows k line table out g h q l)

-- ---- written, then read

module _ (m : Machine) (s : List ℕ) (w : WellFormed m s) (last : (q : ℕ) → q + 1 ≡ m.states → RowUndefined m.symbols s q) (line table : List ℕ) (room : length s ≤ length table) where
  again : (z : ℕ) (h : HasLine m s z) → line_size z m.symbols ≤ length line
      → (read_of (take (line_size z m.symbols) (write_into m s line)) (length table) ≡ Ok m) × (take (length s) (read_into (take (line_size z m.symbols) (write_into m s line)) table) ≡ s)
  again z h l = by h.lettered
    where
      by : Lettered m s z → (read_of (take (line_size z m.symbols) (write_into m s line)) (length table) ≡ Ok m) × (take (length s) (read_into (take (line_size z m.symbols) (write_into m s line)) table) ≡ s)
      by (inr x) = let some = (w 3).0 in let p : m.states - 1 + 1 ≡ m.states = omega arith in absurd (x.1 (m.states - 1) p (last (m.states - 1) p))
      by (inl x) =
          let e = ReadBack.same_size m s w z h x.0 x.1 line l table room in (
            Reads.read_answers z m.symbols (take (line_size z m.symbols) (write_into m s line)) table (Writes.line_good m s w z h line l) (omega arith)
                ∙ ap Ok (ReadBack.same_machine m s w z h x.0 x.1 line l table room),
            ap (λ (i : ℕ). take i (read_into (take (line_size z m.symbols) (write_into m s line)) table)) e ∙ ReadBack.read_back m s w z h x.0 x.1 line l table room,
          )

  pub read_back : (n : ℕ) → write_of m s (length line) ≡ Ok n
      → (read_of (take n (write_into m s line)) (length table) ≡ Ok m) × (take (length s) (read_into (take n (write_into m s line)) table) ≡ s)
  read_back n e =
      let (z, h, l, p) = (written_exact m s w (length line) n).0 e in
      subst (λ (i : ℕ). (read_of (take i (write_into m s line)) (length table) ≡ Ok m) × (take (length s) (read_into (take i (write_into m s line)) table) ≡ s)) (sym p) (again z h l)
