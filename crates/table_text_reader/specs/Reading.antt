-- Reading a line of the one-line form (document 02, request 1): the table of the line, and refusals 19, 20 and 18, in that order. Definitions only.
use Rattle.outcome.specs.declared.Refusal.{Refusal}
use Rattle.std.specs.Prelude.{Bool, true, List, ℕ, ◌+◌, ◌-◌, ◌*◌, ◌/◌, ◌%◌, eqb, ltb, leb, length, get_or, Err, None, Ok, Option, Result, Some}
use Rattle.notation.specs.Choice.{pick}
use Rattle.notation.specs.Fill.{fill_from}
use Rattle.notation.specs.Scan.{first_fail}
use Rattle.symbol.specs.Kinds.{symbol_of, state_of, dir_number}
use Rattle.symbol.specs.declared.Dir.{Dir}
use Rattle.symbol.specs.declared.Dir.TheVariants.{L, R}
use Rattle.outcome.specs.declared.Refusal.TheVariants as Why
use Rattle.machine.specs.declared.Machine.{Machine}
use Rattle.machine.specs.declared.Action.{Action}
use Rattle.machine.specs.Layout.{single_of}
use Rattle.table_laws.specs.WellFormed.{entry_bytes}
use Rattle.table_text_form.specs.Form.{form_of}

-- ---- 20: "a letter other than Z, or a digit, that the line's rows lack"

-- whether place i of a row of k entries is that of a next state's letter
abbrev pub letter_place : (k i : ℕ) → Bool
letter_place k i = eqb (i % (3 * k + 1) % 3) 2

abbrev pub has_letter : (rows b : ℕ) → Bool
has_letter rows b = pick (eqb b 90) true (ltb b (65 + rows))

abbrev pub has_digit : (k b : ℕ) → Bool
has_digit k b = pick (ltb 57 b) true (ltb b (48 + k))

unfoldable pub has_byte : (rows k : ℕ) → List ℕ → ℕ → Bool
has_byte rows k line i = pick (letter_place k i) (has_letter rows (get_or line i 0)) (has_digit k (get_or line i 0))

-- ---- the table

-- "the reader always adds its row, last and all undefined, and starts in A"
abbrev pub machine_of : (rows k : ℕ) → Machine
machine_of rows k =
    record {
      tapes = 1;
      symbols = k;
      states = rows + 1;
      start = 0;
    }

abbrev pub move_of : ℕ → Dir
move_of y = pick (eqb y 76) L R

-- "Z is a halting state", the one of row z
abbrev pub state_in : (z c : ℕ) → ℕ
state_in z c = pick (eqb c 90) z (c - 65)

-- "Each entry is a symbol written, L or R, and the next state's letter."  "`---` is an undefined entry."
abbrev pub entry_of : (z x y c : ℕ) → Option Action
entry_of z x y c = pick (eqb x 45) None (Some (single_of (symbol_of (x - 48)) (move_of y) (state_of (state_in z c))))

-- the place of entry i: three bytes for each entry before it, one for each row
abbrev pub text_place : (k i : ℕ) → ℕ
text_place k i = 3 * i + i / k

unfoldable pub entry_in : (rows k : ℕ) → List ℕ → ℕ → Option Action
entry_in rows k line i =
    pick (ltb i (rows * k))
    (entry_of rows (get_or line (text_place k i) 0) (get_or line (text_place k i + 1) 0) (get_or line (text_place k i + 2) 0))
    None

-- the byte of an action's moves
abbrev pub moves_byte : Action → ℕ
moves_byte a = dir_number a.dir0 + 3 * dir_number a.dir1 + 9 * dir_number a.dir2

-- byte j of the table
unfoldable pub table_byte : (rows k : ℕ) → List ℕ → ℕ → ℕ
table_byte rows k line j = get_or (entry_bytes (entry_in rows k line (j / 8))) (j % 8) 0

abbrev pub table_size : (rows k : ℕ) → ℕ
table_size rows k = 8 * ((rows + 1) * k)

-- ---- the operation

abbrev pub room_for : (rows k room : ℕ) → Result Machine Refusal
room_for rows k room = pick (leb (table_size rows k) room) (Ok (machine_of rows k)) (Err Why.OutputSize)

abbrev pub lacks_at : Option ℕ → Result Machine Refusal → Result Machine Refusal
lacks_at (Some i) rest = Err (Why.LineLacks i)
lacks_at None rest = rest

abbrev pub read_as : Result (ℕ × ℕ) ℕ → List ℕ → ℕ → Result Machine Refusal
read_as (Err i) line room = Err (Why.MalformedLine i)
read_as (Ok (rows, k)) line room = lacks_at (first_fail (has_byte rows k line) (length line) 0) (room_for rows k room)

unfoldable pub read_of : List ℕ → ℕ → Result Machine Refusal
read_of line room = read_as (form_of line) line room

-- the lent table afterwards: unchanged where the line is refused, else with the line's table in its first places
abbrev pub read_on : Result Machine Refusal → List ℕ → List ℕ → List ℕ
read_on (Err why) line table = table
read_on (Ok m) line table = fill_from (table_byte (m.states - 1) m.symbols line) (8 * (m.states * m.symbols)) 0 table

unfoldable pub read_into : List ℕ → List ℕ → List ℕ
read_into line table = read_on (read_of line (length table)) line table
