-- Entries, packed words, glyphs' symbols and a table's numbers, as numbers across the C boundary. Definitions only.
use Rattle.machine.specs.declared.Machine.{Machine}
use Rattle.symbol.specs.declared.Symbol.{Symbol}
use Rattle.std.specs.Prelude.{Bool, true, false, not, List, ℕ, ◌+◌, eqb, set, None, Option, Some}
use Rattle.notation.specs.Choice.{pick}
use Rattle.symbol.specs.Kinds.{symbol_of, state_of, dir_number}
use Rattle.machine.specs.declared.Action.{Action}
use Rattle.machine.specs.Layout.{dir_of, single_of}
use Rattle.machine.specs.Model.Packing.{undefined_word, word_dir, word_write, word_next, word_row}
use Rattle.capi_numbers.specs.Model.Answers.{with_five}

-- ---- a truth value

abbrev pub flag_number : Bool → ℕ
flag_number false = 0
flag_number true = 1

abbrev pub flag_out : Bool → List ℕ → List ℕ
flag_out b xs = set xs 0 (flag_number b)

-- ---- an action: from place i on its next state, the three symbols written and the three moves, by tape

unfoldable pub action_from : ℕ → Action → List ℕ → List ℕ
action_from i a xs =
    set (set (set (set (set (set (set xs i a.next.0) (i + 1) a.write0.0) (i + 2) a.write1.0) (i + 3) a.write2.0) (i + 4) (dir_number a.dir0)) (i + 5) (dir_number a.dir1)) (i + 6) (dir_number a.dir2)

-- ---- an entry: 0 where it is undefined, else 1 and then its action

abbrev pub entry_out : Option Action → List ℕ → List ℕ
entry_out None xs = set xs 0 0
entry_out (Some a) xs = action_from 1 a (set xs 0 1)

-- ---- packed words

-- the entry of a one-tape table that these numbers describe: undefined where `defined` is 0, else with the write, the move and the next state
unfoldable pub entry_of : (defined write dir next : ℕ) → Option Action
entry_of defined write dir next =
    pick (eqb defined 0) None (Some (single_of (symbol_of write) (dir_of dir) (state_of next)))

-- a word's parts: whether it is defined, its move, its write, its next state, its row
abbrev pub parts_out : (word : ℕ) → List ℕ → List ℕ
parts_out w xs = with_five xs (flag_number (not (eqb w undefined_word))) (dir_number (word_dir w)) (word_write w) (word_next w) (word_row w)

-- ---- glyphs: 0 where there is no such glyph, else 1 and then its symbol

abbrev pub named_out : Option Symbol → List ℕ → List ℕ
named_out None xs = set xs 0 0
named_out (Some s) xs = set (set xs 0 1) 1 s.0

-- ---- a table that was read: its numbers of symbols and of states

abbrev pub machine_out : Machine → List ℕ → List ℕ
machine_out m xs = set (set xs 0 m.symbols) 1 m.states
