-- What an accepted reading and an accepted writing leave (document 02, request 1). Definitions only.
use Rattle.std.specs.Prelude.{◌≡◌, List, ℕ, ◌+◌, ◌*◌, ◌≤◌, ◌<◌, length, get_or, take, Ok}
use Rattle.machine.specs.declared.Machine.{Machine}
use Rattle.machine.specs.Model.Check.{table_check}
use Rattle.table_laws.specs.WellFormed.{WellFormed}
use Rattle.table_text_rows.specs.Meaning.{RowUndefined, HasLine}
use Rattle.table_text_reader.specs.Reading.{read_into}
use Rattle.table_text_reader.specs.Meaning.{GoodLine, SaysAt}
use Rattle.table_text_writer.specs.Writing.{write_into}

-- the table of a machine with one tape, in the first places of the lent table after a line was read
abbrev pub table_of : Machine → (line table : List ℕ) → List ℕ
table_of m line table = take (8 * (m.states * m.symbols)) (read_into line table)

-- the line was read: `m` has the numbers of its table
pub record TableRead (line table : List ℕ) (m : Machine) : Type 0 where
  pub rows : ℕ
  pub line_is : GoodLine rows m.symbols line
  pub one_tape_holds : m.tapes ≡ 1
  -- "the reader always adds its row": one row more than the line has
  pub states_are : m.states ≡ rows + 1
  -- "and starts in A"
  pub start_is : m.start ≡ 0
  -- the bytes past the table stay
  pub room : 8 * (m.states * m.symbols) ≤ length table
  pub same_length : length (read_into line table) ≡ length table
  pub rest : (j : ℕ) → 8 * (m.states * m.symbols) ≤ j → get_or (read_into line table) j 0 ≡ get_or table j 0
  -- the table check accepts it, and it is laid out as document 01 says
  pub accepted : table_check m (table_of m line table) ≡ Ok tt
  pub well_formed : WellFormed m (table_of m line table)
  -- "Each entry is a symbol written, L or R, and the next state's letter."  "`---` is an undefined entry."
  pub says : (q a : ℕ) → q < rows → a < m.symbols → SaysAt rows m.symbols line (table_of m line table) q a
  -- "last and all undefined"
  pub last_row : RowUndefined m.symbols (table_of m line table) rows

-- the table was written: its line has n bytes
pub record LineWritten (m : Machine) (s line : List ℕ) (n : ℕ) : Type 0 where
  pub rows : ℕ
  pub has : HasLine m s rows
  pub size : n + 1 ≡ rows * (3 * m.symbols + 1)
  -- the bytes past the line stay
  pub room : n ≤ length line
  pub same_length : length (write_into m s line) ≡ length line
  pub rest : (p : ℕ) → n ≤ p → get_or (write_into m s line) p 0 ≡ get_or line p 0
  -- it is a line of the form that the reader accepts, and says what the lettered rows hold
  pub line_is : GoodLine rows m.symbols (take n (write_into m s line))
  pub says : (q a : ℕ) → q < rows → a < m.symbols → SaysAt rows m.symbols (take n (write_into m s line)) s q a
