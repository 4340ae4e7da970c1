-- Packed words (document 01, machine.rs), and the packing of a table. Definitions only.
use Rattle.outcome.specs.declared.Refusal.{Refusal}
use Rattle.std.specs.Prelude.{List, ℕ, ◌/◌, ◌%◌, ◌^◌, eqb, leb, length, None, Ok, Option, Result, Some, ⊤}
use Rattle.notation.specs.Choice.{pick}
use Rattle.notation.specs.Fill.{fill_from}
use Rattle.symbol.specs.Kinds.{symbol_of, state_of, dir_number}
use Rattle.symbol.specs.declared.Dir.{Dir}
use Rattle.outcome.specs.declared.Refusal.TheVariants as Why
use Rattle.machine.specs.declared.Machine.{Machine}
use Rattle.machine.specs.declared.Action.{Action}
use Rattle.machine.specs.Layout.{entry_count, dir_of, entry_at, single_of}
use Rattle.machine.specs.Model.Check.{demand, checked_on, filled_on, table_check}
pub use Rattle.table_bytes.specs.Model.Words.{word_of, word_for}

-- "undefined is 3"
abbrev pub undefined_word : ℕ
undefined_word = 3

-- the word of an action
unfoldable pub action_word : Action → ℕ → ℕ
action_word a stride = word_for undefined_word (dir_number a.dir0) a.write0.0 a.next.0 stride

abbrev pub pack_word : Option Action → ℕ → ℕ
pack_word None stride = undefined_word
pack_word (Some a) stride = action_word a stride

-- the word of entry i
unfoldable pub word_at : List ℕ → ℕ → ℕ → ℕ
word_at s stride i = pack_word (entry_at s i) stride

-- ---- every word unpacks: "a low byte over 1 as N"

abbrev pub word_dir : ℕ → Dir
word_dir w = dir_of (w % 256)

abbrev pub word_write : ℕ → ℕ
word_write w = w / 256 % 256

abbrev pub word_next : ℕ → ℕ
word_next w = w / 65536 % 65536

abbrev pub word_row : ℕ → ℕ
word_row w = w / 2 ^ 32

unfoldable pub word_action : ℕ → Action
word_action w = single_of (symbol_of (word_write w)) (word_dir w) (state_of (word_next w))

-- "any other word unpacks as defined"
unfoldable pub word_entry : ℕ → Option Action
word_entry w = pick (eqb w undefined_word) None (Some (word_action w))

-- ---- a whole table of one tape: after the table check "7 for several tapes, 18 for too short an output"

unfoldable pub pack_check : Machine → List ℕ → ℕ → Result ⊤ Refusal
pack_check m s room =
    checked_on (table_check m s)
    (demand (eqb m.tapes 1) Why.PackedWords (demand (leb (entry_count m) room) Why.OutputSize (Ok tt)))

-- the output afterwards: place i holds the word of entry i; after a refusal the output is unchanged
unfoldable pub pack_into : Machine → List ℕ → List ℕ → List ℕ
pack_into m s out =
    filled_on (pack_check m s (length out)) out
    (fill_from (word_at s m.symbols) (entry_count m) 0 out)
