-- THE OUTPUT: from the bytes of the input to the bytes that are printed. Definitions only.
use Rattle.std.specs.Prelude.{ℕ, zero, suc, ◌*◌, ◌-◌, ◌/◌, ◌%◌, List, [], ◌∷◌, ◌++◌, eqb, length, get_or, take, replicate, Err, None, Ok, Option, Result, Some}
use Rattle.notation.specs.Choice.{pick}
use Rattle.outcome.specs.declared.Refusal.{Refusal}
use Rattle.outcome.specs.Numbers.{refusal_number, place_of}
use Rattle.machine.specs.declared.Machine.{Machine}
use Rattle.machine.specs.declared.Action.{Action}
use Rattle.machine.specs.Layout.{entry_at}
use Rattle.table_text_reader.specs.Reading.{read_of, read_into}
use Rattle.table_text_writer.specs.Writing.{move_text}
use Rattle.listing_text.specs.Text.{bytes}
use Rattle.listing_text.specs.Show.{show}

-- ---- the line: the input without one newline at its end

unfoldable pub line_length : (input : List ℕ) → ℕ
line_length s = pick (eqb (get_or s (length s - 1) 0) 10) (length s - 1) (length s)

abbrev pub line_in : (input : List ℕ) → List ℕ
line_in s = take (line_length s) s

-- ---- the listing of a table (document 01, "Listing")

-- a number and the byte after it
abbrev pub number_then : (n b : ℕ) → List ℕ
number_then n b = show n ++ (b ∷ [])

-- "tapes symbols states start"
abbrev pub machine_line : Machine → List ℕ
machine_line m = number_then m.tapes 32 ++ number_then m.symbols 32 ++ number_then m.states 32 ++ number_then m.start 10

-- "state read write move next", where the table has k symbols and the entry is number i
abbrev pub entry_line : (k i : ℕ) → Action → List ℕ
entry_line k i a =
    number_then (i / k) 32 ++ number_then (i % k) 32 ++ number_then a.write0.0 32 ++ (move_text a.dir0 ∷ 32 ∷ [])
    ++ number_then a.next.0 10

-- an undefined entry has no line
unfoldable pub entry_text : (k i : ℕ) → Option Action → List ℕ
entry_text k i None = []
entry_text k i (Some a) = entry_line k i a

-- the lines of the first n entries of table s
unfoldable pub entry_lines : (k : ℕ) → List ℕ → (n : ℕ) → List ℕ
entry_lines k s zero = []
entry_lines k s (suc n) = entry_lines k s n ++ entry_text k n (entry_at s n)

-- the word is empty, and there are no calls
unfoldable pub listing_of : Machine → (table : List ℕ) → List ℕ
listing_of m s =
    bytes "tapes symbols states start\n" ++ machine_line m ++ bytes "state read write move next\n"
    ++ entry_lines m.symbols s (m.states * m.symbols) ++ bytes "word\n\ncall number\n"

-- ---- a refusal: its number, and its place where it has one

unfoldable pub place_text : Option ℕ → List ℕ
place_text None = []
place_text (Some i) = 32 ∷ show i

unfoldable pub refused_text : Refusal → List ℕ
refused_text why = bytes "refused " ++ show (refusal_number why) ++ place_text (place_of why) ++ bytes "\n"

-- ---- the answer

abbrev pub answer_for : Result Machine Refusal → (table : List ℕ) → List ℕ
answer_for (Ok m) s = listing_of m s
answer_for (Err why) s = refused_text why

-- 2,080 bytes are enough for 26 rows of 10 entries
abbrev pub blank_table : List ℕ
blank_table = replicate 2080 0

unfoldable pub answer_to : (input : List ℕ) → List ℕ
answer_to s = answer_for (read_of (line_in s) 2080) (read_into (line_in s) blank_table)
