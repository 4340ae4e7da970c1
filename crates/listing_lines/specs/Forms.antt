-- The forms of the listing's lines, and the table that its entry lines fill (document 01, "Listing"). Definitions only.
use Rattle.std.specs.Prelude.{ℕ, ◌+◌, ◌*◌, Bool, List, [], ◌∷◌, ◌++◌, length, get_or, eqb, leb, ltb, None, Option, Some}
use Rattle.std.proofs.Math.Seq.{paste}
use Rattle.notation.specs.Choice.{pick, both}
use Rattle.symbol.specs.declared.Dir.{Dir}
use Rattle.symbol.specs.declared.Dir.TheVariants.{L, R, N}
use Rattle.symbol.specs.Kinds.{symbol_of, state_of}
use Rattle.machine.specs.declared.Machine.{Machine}
use Rattle.machine.specs.declared.Action.{Action}
use Rattle.machine.specs.Layout.{single_of}
use Rattle.table_laws.specs.WellFormed.{entry_bytes}
use Rattle.timeline_rule.specs.declared.Call.{Call}
use Rattle.timeline_rule.specs.declared.Call.TheVariants.{Seek, Forward, Back}
use Rattle.listing_text.specs.Text.{bytes}
use Rattle.listing_text.specs.Pieces.{fields, field, same_list}
use Rattle.listing_text.specs.Numbers.{number, below, on_num}
use Rattle.listing_lines.specs.declared.Rule.{Rule}

-- ---- the lines that are fixed

-- "the first line must be exactly `tapes symbols states start`"
abbrev pub first_line : List ℕ
first_line = bytes "tapes symbols states start"

abbrev pub columns_line : List ℕ
columns_line = bytes "state read write move next"

abbrev pub word_line : List ℕ
word_line = bytes "word"

abbrev pub heading_line : List ℕ
heading_line = bytes "call number"

-- ---- the lines that hold numbers: what each says, or none where it is bad

-- `go` of what a line says, or `out` where the line is bad
unfoldable pub on_some : {A B : Type 0} → Option B → A → (B → A) → A
on_some (Some b) out go = go b
on_some None out go = out

-- "Tapes other than 1 make a bad line, as do .. a line 2 whose table has over 512 entries"; the ranges of k, n and start
-- are those of the table check
unfoldable pub machine_ok : (t k n s : ℕ) → Bool
machine_ok t k n s =
    both (eqb t 1)
    (both (leb 1 k) (both (leb k 256) (both (leb 1 n) (both (leb n 65536) (both (ltb s n) (leb (n * k) 512))))))

-- tapes symbols states start
unfoldable pub machine_line : List ℕ → Option Machine
machine_line l =
    pick (eqb (length (fields l)) 4)
    (on_num (number (field l 0)) None λ t.
    on_num (number (field l 1)) None λ k.
    on_num (number (field l 2)) None λ n.
    on_num (number (field l 3)) None λ s.
    pick (machine_ok t k n s) (Some (record { tapes = t; symbols = k; states = n; start = s })) None)
    None

-- the move of a letter: "move L, R or N"
unfoldable pub move : List ℕ → Option Dir
move f =
    pick (same_list f (bytes "L")) (Some L)
    (pick (same_list f (bytes "R")) (Some R) (pick (same_list f (bytes "N")) (Some N) None))

-- state read write move next
unfoldable pub entry_line : Machine → List ℕ → Option Rule
entry_line m l =
    pick (eqb (length (fields l)) 5)
    (on_num (below m.states (field l 0)) None λ q.
    on_num (below m.symbols (field l 1)) None λ a.
    on_num (below m.symbols (field l 2)) None λ w.
    on_some (move (field l 3)) None λ d.
    on_num (below m.states (field l 4)) None λ q'.
    Some (record { state = q; read = a; write = w; dir = d; next = q' }))
    None

-- w, followed by the symbols of the fields
unfoldable pub symbols_of : (k : ℕ) (w : List ℕ) → List (List ℕ) → Option (List ℕ)
symbols_of k w [] = Some w
symbols_of k w (f ∷ fs) = on_num (below k f) None λ a. symbols_of k (w ++ (a ∷ [])) fs

-- "The word line holds symbols, or is empty."
unfoldable pub word_of : (k : ℕ) → List ℕ → Option (List ℕ)
word_of k l = pick (eqb (length l) 0) (Some []) (symbols_of k [] (fields l))

-- w, followed by the symbols of the fields before the first bad one
unfoldable pub symbols_before : (k : ℕ) (w : List ℕ) → List (List ℕ) → List ℕ
symbols_before k w [] = w
symbols_before k w (f ∷ fs) = on_num (below k f) w λ a. symbols_before k (w ++ (a ∷ [])) fs

-- the symbols of a word line before its first bad field; the whole word where none is bad
unfoldable pub word_before : (k : ℕ) → List ℕ → List ℕ
word_before k l = pick (eqb (length l) 0) [] (symbols_before k [] (fields l))

-- call number
unfoldable pub call_line : List ℕ → Option Call
call_line l =
    pick (eqb (length (fields l)) 2)
    (on_num (number (field l 1)) None λ n.
    pick (same_list (field l 0) (bytes "seek")) (Some (Seek n))
    (pick (same_list (field l 0) (bytes "forward")) (Some (Forward n))
    (pick (same_list (field l 0) (bytes "back")) (Some (Back n)) None)))
    None

-- ---- the table that entry lines fill: 512 places of eight bytes, laid out as a table of one tape

-- the entry for state q and symbol a is number q × k + a
abbrev pub number_in : Machine → Rule → ℕ
number_in m e = e.state * m.symbols + e.read

-- where its eight bytes begin
unfoldable pub place : Machine → Rule → ℕ
place m e = 8 * number_in m e

-- whether the entry was given before: byte 0 is 1 for a defined entry
unfoldable pub given : Machine → List ℕ → Rule → Bool
given m t e = eqb (get_or t (place m e) 0) 1

abbrev pub action_of : Rule → Action
action_of e = single_of (symbol_of e.write) e.dir (state_of e.next)

unfoldable pub define : Machine → List ℕ → Rule → List ℕ
define m t e = paste t (place m e) (entry_bytes (Some (action_of e))) 8
