-- Packed words in a burst: the decoding of a word, and when words are those of a table. Definitions only.
use Rattle.std.specs.Prelude.{◌≡◌, Bool, true, not, List, ℕ, ◌*◌, ◌%◌, ◌<◌, eqb, length, get_or, Ok, Option, Some, None}
use Rattle.notation.specs.Choice.{pick}
use Rattle.machine.specs.declared.Machine.{Machine}
use Rattle.machine.specs.Model.Check.{table_check}
use Rattle.machine.specs.Layout.{entry_at}
use Rattle.machine.specs.Model.Packing.{undefined_word, pack_word, word_write, word_next, word_row}
use Rattle.sim_burst.specs.declared.inner.step.Decoded.{Decoded}
use Rattle.sim_burst.specs.Model.Burst.{EntryIs}

-- whether the word is that of a defined entry
abbrev pub word_known : ℕ → Bool
word_known w = not (eqb w undefined_word)

abbrev pub decoded_word : ℕ → Decoded
decoded_word w =
    record {
      write = word_write w;
      dir = w % 256;
      next = word_next w;
      row = word_row w;
    }

-- the entry of a word: the undefined word has none
abbrev pub unpacked : ℕ → Option Decoded
unpacked w = pick (word_known w) (Some (decoded_word w)) None

-- where word i is known, it decodes to entry i of table s
pub record Packs (words : List ℕ) (k : ℕ) (s : List ℕ) : Type 0 where
  pub tells : (i : ℕ) → i < length words → word_known (get_or words i 0) ≡ true → EntryIs k s i (decoded_word (get_or words i 0))

-- the machine has one tape, its table has passed the check, and the words are the packed entries of the table
pub record WordsOk (m : Machine) (s words : List ℕ) : Type 0 where
  pub checked : table_check m s ≡ Ok tt
  pub one_tape_holds : m.tapes ≡ 1
  pub count : length words ≡ m.states * m.symbols
  pub holds : (i : ℕ) → i < m.states * m.symbols → get_or words i 0 ≡ pack_word (entry_at s i) m.symbols
