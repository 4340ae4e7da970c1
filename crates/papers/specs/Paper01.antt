-- REQUEST 1: "Tables in the usual one-line form." Each part has the customer's sentence above it. `demands_first/FirstLines` has the order of the refusals, their numbers,
-- and that a refusal changes nothing.
use Rattle.std.specs.Prelude.{◌≡◌, ◌↔◌, List, ℕ, ◌+◌, ◌-◌, ◌*◌, ◌≤◌, ◌<◌, length, take, replicate, Err, Ok}
use Rattle.outcome.specs.declared.Refusal.{Refusal}
use Rattle.outcome.specs.declared.Refusal.TheVariants as Why
use Rattle.machine.specs.declared.Machine.{Machine}
use Rattle.machine.specs.Model.Check.{table_check}
use Rattle.table_laws.specs.WellFormed.{WellFormed}
use Rattle.table_text_form.specs.Line.{MalformedAt}
use Rattle.table_text_rows.specs.Meaning.{RowUndefined, HasLine}
use Rattle.table_text_reader.specs.Reading.{read_of, read_into}
use Rattle.table_text_reader.specs.Meaning.{FirstLacking, GoodLine, DashedRow}
use Rattle.table_text_reader.proofs.Facts.Exact.{malformed_exact, lacking_exact, short_exact, accepted_exact}
use Rattle.table_text_writer.specs.Writing.{write_of, write_into}
use Rattle.table_text_writer.proofs.Facts.Exact.{refused_exact, none_exact, small_exact, enough_exact}
use Rattle.table_text_laws.specs.Claims.{table_of, TableRead, LineWritten}
use Rattle.table_text_laws.specs.Example.{example_line, example_machine, example_table}
use Rattle.table_text_laws.proofs.Facts.Examples.{line_read, line_written}
use Rattle.table_text_laws.proofs.Facts.Claims as Claims

pub record OneLineForm : Type 0 where
  -- "Contributors exchange machines as lines such as `1RB1LB_1LA1RZ`.": the table of this line is that of document 01's listing
  pub example_read : (read_of example_line 48 ≡ Ok example_machine) × (read_into example_line (replicate 48 7) ≡ example_table)
  pub example_written : (write_of example_machine example_table 13 ≡ Ok 13) × (write_into example_machine example_table (replicate 13 7) ≡ example_line)
  -- ---- reading

  -- "19 malformed line (first byte that no line of the form has after those before it, or the length if it ends early)": by the lines that begin as this one does
  pub malformed : (line : List ℕ) (room i : ℕ) → (read_of line room ≡ Err (Why.MalformedLine i)) ↔ MalformedAt line i
  -- "20 a letter other than Z, or a digit, that the line's rows lack": with the first such place
  pub lacking : (line : List ℕ) (room i : ℕ) → (read_of line room ≡ Err (Why.LineLacks i)) ↔ FirstLacking line i
  -- "then 18 for a short buffer": the table has eight bytes for each entry, with Z's row
  pub read_short : (line : List ℕ) (room : ℕ)
      → (read_of line room ≡ Err Why.OutputSize) ↔ ((rows : ℕ) × (k : ℕ) × GoodLine rows k line × (room < 8 * ((rows + 1) * k)))
  -- "Read and write this form for one tape, two to ten symbols and 1 to 25 lettered states.": every line that neither 19 nor 20 refuses is read where the buffer is
  -- long enough, and no other
  pub read_enough : (line : List ℕ) (room : ℕ)
      → ((m : Machine) × (read_of line room ≡ Ok m)) ↔ ((rows : ℕ) × (k : ℕ) × GoodLine rows k line × (8 * ((rows + 1) * k) ≤ room))
  -- "Each entry is a symbol written, L or R, and the next state's letter. Rows are parted by an underscore. `---` is an undefined entry. Z is a halting state; the
  -- reader always adds its row, last and all undefined, and starts in A."
  pub read : (line table : List ℕ) (m : Machine) → read_of line (length table) ≡ Ok m → TableRead line table m
  -- ---- writing

  -- "after the table check for writing"
  pub checked : (m : Machine) (s : List ℕ) (room : ℕ) (why : Refusal) → table_check m s ≡ Err why → write_of m s room ≡ Err why
  -- "21 a table with several tapes, symbols not 2 to 10, lettered rows not 1 to 25, a start other than 0, an N move, or an undefined row before the last"
  pub no_line : (m : Machine) (s : List ℕ) → WellFormed m s → (room : ℕ) → (write_of m s room ≡ Err Why.NoLine) ↔ ((z : ℕ) → ¬ (HasLine m s z))
  -- "then 18 for a short buffer"
  pub write_short : (m : Machine) (s : List ℕ) → WellFormed m s → (room : ℕ)
      → (write_of m s room ≡ Err Why.OutputSize) ↔ ((z : ℕ) × HasLine m s z × (room < z * (3 * m.symbols + 1) - 1))
  -- every table that the check accepts and 21 does not refuse is written where the buffer is long enough
  pub write_enough : (m : Machine) (s : List ℕ) → WellFormed m s → (room : ℕ)
      → ((n : ℕ) × (write_of m s room ≡ Ok n)) ↔ ((z : ℕ) × HasLine m s z × (z * (3 * m.symbols + 1) - 1 ≤ room))
  -- "Writing takes a last row that is all undefined as Z's."
  pub written : (m : Machine) (s : List ℕ) → WellFormed m s → (line : List ℕ) (n : ℕ) → write_of m s (length line) ≡ Ok n → LineWritten m s line n
  -- ---- each undoes the other

  -- "A line the reader accepts in which no row is `---` throughout is written back as it came."
  pub written_back : (line table out : List ℕ) (m : Machine) → read_of line (length table) ≡ Ok m
      → ((q : ℕ) → q + 1 < m.states → ¬ (DashedRow m.symbols line q)) → length line ≤ length out
      → (write_of m (table_of m line table) (length out) ≡ Ok (length line)) × (take (length line) (write_into m (table_of m line table) out) ≡ line)
  -- a table whose last row is undefined is read back as it was
  pub read_back : (m : Machine) (s : List ℕ) → WellFormed m s → ((q : ℕ) → q + 1 ≡ m.states → RowUndefined m.symbols s q)
      → (line table : List ℕ) → length s ≤ length table → (n : ℕ) → write_of m s (length line) ≡ Ok n
      → (read_of (take n (write_into m s line)) (length table) ≡ Ok m) × (take (length s) (read_into (take n (write_into m s line)) table) ≡ s)

pub one_line_form : OneLineForm
one_line_form = record {
  example_read = line_read;
  example_written = line_written;
  malformed = malformed_exact;
  lacking = lacking_exact;
  read_short = short_exact;
  read_enough = accepted_exact;
  read = Claims.table_read;
  checked = refused_exact;
  no_line = none_exact;
  write_short = small_exact;
  write_enough = enough_exact;
  written = Claims.line_written;
  written_back = Claims.written_back;
  read_back = Claims.read_back;
}
