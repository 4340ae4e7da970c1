-- THE LISTING of document 01: from the bytes of the input to what it asks for, or to the number of its first bad line. Definitions only.
use Rattle.std.specs.Prelude.{ℕ, ◌+◌, ◌*◌, List, [], ◌∷◌, ◌++◌, length, take, replicate, leb, ltb}
use Rattle.notation.specs.Choice.{pick}
use Rattle.machine.specs.declared.Machine.{Machine}
use Rattle.timeline_rule.specs.declared.Call.{Call}
use Rattle.listing_text.specs.Pieces.{lines, same_list}
use Rattle.listing_lines.specs.Forms.{first_line, columns_line, word_line, heading_line, on_some, machine_line, entry_line, word_of, call_line, given, define}
use Rattle.listing_reader.specs.declared.Due.{Due}
use Rattle.listing_reader.specs.declared.Due.TheVariants.{Names, Numbers, Columns, Entries, Word, Heading, Calls}

-- ---- line after line

-- the content of the lines so far; the table has 512 places of eight bytes
pub record Sofar : Type 0 where
  pub machine : Machine
  pub table : List ℕ
  pub word : List ℕ
  pub calls : List Call

-- the content before the first line; line 2 gives the machine's numbers, and no line before it uses them
unfoldable pub nothing : Sofar
nothing =
    record {
      machine = record { tapes = 0; symbols = 0; states = 0; start = 0 };
      table = replicate 4096 0;
      word = [];
      calls = [];
    }

-- a line is good, with the kind of line that is due after it; or it is bad
pub data Next : Type 0 where
  on : Due → Sofar → Next
  bad : Next

-- the result of a line where a line of kind `d` is due. "Entry lines come in any order; there may be none"; bad are "an entry's second
-- giving" and "a 65th call"
unfoldable pub line : (d : Due) → Sofar → List ℕ → Next
line Names x l = pick (same_list l first_line) (on Numbers x) bad
line Numbers x l =
    on_some (machine_line l) bad λ m.
    on Columns (record { machine = m; table = x.table; word = x.word; calls = x.calls })
line Columns x l = pick (same_list l columns_line) (on Entries x) bad
line Entries x l =
    pick (same_list l word_line) (on Word x)
    (on_some (entry_line x.machine l) bad λ e.
    pick (given x.machine x.table e) bad
    (on Entries (record { machine = x.machine; table = define x.machine x.table e; word = x.word; calls = x.calls })))
line Word x l =
    on_some (word_of x.machine.symbols l) bad λ w.
    on Heading (record { machine = x.machine; table = x.table; word = w; calls = x.calls })
line Heading x l = pick (same_list l heading_line) (on Calls x) bad
line Calls x l =
    pick (ltb (length x.calls) 64)
    (on_some (call_line l) bad λ c.
    on Calls (record { machine = x.machine; table = x.table; word = x.word; calls = x.calls ++ (c ∷ []) }))
    bad

-- the machine's part of the table: 8 bytes for each of its entries
abbrev pub table_in : Sofar → List ℕ
table_in x = take (8 * (x.machine.states * x.machine.symbols)) x.table

-- ---- the whole input

pub data Listing : Type 0 where
  refused : ℕ → Listing
  asked : Sofar → Listing

-- the result at the end of the input: there may be no call lines; "a missing line is bad at its own number"
unfoldable pub at_end : (n : ℕ) → Due → Sofar → Listing
at_end n Names x = refused n
at_end n Numbers x = refused n
at_end n Columns x = refused n
at_end n Entries x = refused n
at_end n Word x = refused n
at_end n Heading x = refused n
at_end n Calls x = asked x

unfoldable pub on_next : {A : Type 0} → Next → A → (Due → Sofar → A) → A
on_next (on d x) out go = go d x
on_next bad out go = out

-- n is the number of the next line; bad is "a line over 80 bytes without its newline"
unfoldable pub read_from : (n : ℕ) → Due → Sofar → List (List ℕ) → Listing
read_from n d x [] = at_end n d x
read_from n d x (l ∷ ls) =
    pick (leb (length l) 80)
    (on_next (line d x l) (refused n) λ d' x'. read_from (n + 1) d' x' ls)
    (refused n)

-- "the line number, counted from 1, of the first such line"
unfoldable pub listing : List ℕ → Listing
listing s = read_from 1 Names nothing (lines s)
