-- Writing a table in the one-line form (document 02, request 1): the bytes of the line, and refusals 21 and 18 after the table check. `table_text_rows` has the test of 21. Definitions only.
use Rattle.outcome.specs.declared.Refusal.{Refusal}
use Rattle.std.specs.Prelude.{List, ℕ, ◌+◌, ◌-◌, ◌*◌, ◌/◌, ◌%◌, eqb, leb, length, Err, None, Ok, Option, Result, Some, ⊤}
use Rattle.notation.specs.Choice.{pick}
use Rattle.notation.specs.Fill.{fill_from}
use Rattle.symbol.specs.declared.Dir.{Dir}
use Rattle.symbol.specs.declared.Dir.TheVariants.{L, R, N}
use Rattle.outcome.specs.declared.Refusal.TheVariants as Why
use Rattle.machine.specs.declared.Machine.{Machine}
use Rattle.machine.specs.declared.Action.{Action}
use Rattle.machine.specs.Layout.{entry_at}
use Rattle.machine.specs.Model.Check.{table_check}
use Rattle.table_text_rows.specs.Rows.{lettered_rows, has_line}

-- ---- the line, where z is the number of the lettered rows

abbrev pub move_text : Dir → ℕ
move_text L = 76
move_text R = 82
move_text N = 78

abbrev pub letter_text : (z q : ℕ) → ℕ
letter_text z q = pick (eqb q z) 90 (65 + q)

abbrev pub action_text : ℕ → Action → ℕ → ℕ
action_text z a j = pick (eqb j 0) (48 + a.write0.0) (pick (eqb j 1) (move_text a.dir0) (letter_text z a.next.0))

-- byte j of an entry's text
abbrev pub entry_text : ℕ → Option Action → ℕ → ℕ
entry_text z None j = 45
entry_text z (Some a) j = action_text z a j

-- byte p of the line of a table with k symbols: a row has three bytes for each entry, and an underscore after it
unfoldable pub line_byte : (z k : ℕ) → List ℕ → ℕ → ℕ
line_byte z k s p =
    pick (eqb (p % (3 * k + 1)) (3 * k)) 95
    (entry_text z (entry_at s (p / (3 * k + 1) * k + p % (3 * k + 1) / 3)) (p % (3 * k + 1) % 3))

-- the last row has no underscore
abbrev pub line_size : (z k : ℕ) → ℕ
line_size z k = z * (3 * k + 1) - 1

-- ---- the operation

abbrev pub size_of : Machine → List ℕ → ℕ
size_of m s = line_size (lettered_rows m s) m.symbols

abbrev pub written_on : Result ⊤ Refusal → Result ℕ Refusal → Result ℕ Refusal
written_on (Err why) rest = Err why
written_on (Ok tt) rest = rest

unfoldable pub write_of : Machine → List ℕ → ℕ → Result ℕ Refusal
write_of m s room =
    written_on (table_check m s)
    (pick (has_line m s) (pick (leb (size_of m s) room) (Ok (size_of m s)) (Err Why.OutputSize)) (Err Why.NoLine))

-- the lent line afterwards: unchanged where the table is refused, else with its line in the first places
abbrev pub write_on : Result ℕ Refusal → Machine → List ℕ → List ℕ → List ℕ
write_on (Err why) m s line = line
write_on (Ok n) m s line = fill_from (line_byte (lettered_rows m s) m.symbols s) n 0 line

unfoldable pub write_into : Machine → List ℕ → List ℕ → List ℕ
write_into m s line = write_on (write_of m s (length line)) m s line
