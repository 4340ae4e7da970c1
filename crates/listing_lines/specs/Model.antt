-- The meaning of the code's results and lent slices, and the ranges of its numbers, for the contracts. Definitions only.
use Rattle.std.specs.Prelude.{ℕ, ◌*◌, ◌≤◌, ◌<◌, List, ◌++◌, length, drop, None, Option, Some}
use Rattle.machine.specs.declared.Machine.{Machine}
use Rattle.listing_lines.specs.Forms.{word_of, word_before}
use Rattle.listing_lines.specs.declared.Rule.{Rule}

-- ---- what a line says

-- how many symbols the word has
unfoldable pub count_of : Option (List ℕ) → Option ℕ
count_of (Some w) = Some (length w)
count_of None = None

-- w, with v written over its first places
abbrev pub over : (v w : List ℕ) → List ℕ
over v w = v ++ drop (length v) w

-- a word line read into the lent bytes w: the count, and all bytes afterwards. Where a field is bad, the symbols before it are written
unfoldable pub read_word : (k : ℕ) (l w : List ℕ) → Option ℕ × List ℕ
read_word k l w = (count_of (word_of k l), over (word_before k l) w)

-- ---- ranges

-- a machine whose table fits in 512 places
pub record Small (m : Machine) : Type 0 where
  pub few_symbols : m.symbols ≤ 256
  pub few_states : m.states ≤ 65536
  pub few : m.states * m.symbols ≤ 512

-- an entry of the machine: each number lies in its range
pub record RuleOk (m : Machine) (e : Rule) : Type 0 where
  pub state_ok : e.state < m.states
  pub read_ok : e.read < m.symbols
  pub write_ok : e.write < m.symbols
  pub next_ok : e.next < m.states

-- a line of 80 bytes has at most 81 fields
abbrev pub CountOk : Option ℕ → Type 0
CountOk (Some n) = n ≤ 81
CountOk None = Unit {0}
