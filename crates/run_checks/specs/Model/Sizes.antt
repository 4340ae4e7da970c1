-- The sizes and words that an operation requires before it begins. Definitions only.
use Rattle.outcome.specs.declared.Refusal.{Refusal}
use Rattle.std.specs.Prelude.{Bool, true, List, [], ℕ, ◌+◌, ◌-◌, eqb, ltb, leb, length, get_or, Ok, Result, ⊤}
use Rattle.notation.specs.Choice.{pick, both}
use Rattle.notation.specs.Limits.{steps_most, cells_most}
use Rattle.notation.specs.Scan.{all_in}
use Rattle.outcome.specs.declared.Refusal.TheVariants as Why
use Rattle.machine.specs.declared.Machine.{Machine}
use Rattle.machine.specs.Model.Check.{within, demand, checked_on, table_check}
use Rattle.machine.specs.Layout.{entry_count}
use Rattle.machine.specs.Model.Packing.{word_at}
use Rattle.machine.specs.Model.Word.{word_check}
use Rattle.tape.specs.Model.Moves.{Held, held, no_tape, fresh_of}

-- ---- tapes that the machine has, and those that it lacks

abbrev pub has1 : Machine → Bool
has1 m = ltb 1 m.tapes

abbrev pub has2 : Machine → Bool
has2 m = ltb 2 m.tapes

-- a test of a tape that the machine lacks is passed
abbrev pub if_has : Bool → Bool → Bool
if_has has test = pick has test true

-- ---- refusal 7

abbrev pub word_right : List ℕ → ℕ → List ℕ → ℕ → Bool
word_right s k words i = eqb (get_or words i 0) (word_at s k i)

-- the fast run, after the table check: "7 packed words not the table's (more than one tape also counts)"; there must be exactly as many as entries
unfoldable pub words_right : Machine → (s words : List ℕ) → Bool
words_right m s words =
    both (eqb m.tapes 1) (both (eqb (length words) (entry_count m)) (all_in (word_right s m.symbols words) (entry_count m) 0))

-- ---- refusal 11

-- "11 for the upper sizes": a cells buffer over 2^30
unfoldable pub sizes_fit : Machine → (n0 n1 n2 : ℕ) → Bool
sizes_fit m n0 n1 n2 =
    both (leb n0 cells_most) (both (if_has (has1 m) (leb n1 cells_most)) (if_has (has2 m) (leb n2 cells_most)))

-- ---- refusals 12 "steps to 2^62", 13 "steps + fuel over 2^62"

-- without computing a sum that could wrap
unfoldable pub fuel_fits : (steps fuel : ℕ) → Bool
fuel_fits steps fuel = both (leb fuel steps_most) (leb steps (steps_most - fuel))

-- ---- a fresh engine: the table check, refusals 9 and 10 of the word, then 11

-- "11 a cells buffer under word + 32 (other tapes 32) or over 2^30 .. Tapes the machine lacks need none."
unfoldable pub fresh_sizes : Machine → (n n0 n1 n2 : ℕ) → Bool
fresh_sizes m n n0 n1 n2 =
    both (within (n + 32) cells_most n0) (both (if_has (has1 m) (within 32 cells_most n1)) (if_has (has2 m) (within 32 cells_most n2)))

unfoldable pub fresh_check : Machine → (s w : List ℕ) → (n0 n1 n2 : ℕ) → Result ⊤ Refusal
fresh_check m s w n0 n1 n2 =
    checked_on (table_check m s)
    (checked_on (word_check m.symbols w) (demand (fresh_sizes m (length w) n0 n1 n2) Why.BufferSize (Ok tt)))

-- a tape of the machine starts blank; the cells of one that it lacks are unchanged
abbrev pub blank_tape : Bool → List ℕ → Held
blank_tape has c = pick has (fresh_of [] c) (held no_tape c)
