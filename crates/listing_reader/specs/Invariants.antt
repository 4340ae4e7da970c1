-- The meaning of the reader's value and its lent slices, and their ranges, for the contracts. Definitions only.
use Rattle.std.specs.Prelude.{ℕ, ◌≤◌, ◌≡◌, List, take, set, None, Option, Some}
use Rattle.timeline_rule.specs.declared.Call.{Call}
use Rattle.listing_lines.specs.Forms.{word_before, call_line}
use Rattle.listing_lines.specs.Model.{over, Small}
use Rattle.listing_reader.specs.declared.Due.{Due}
use Rattle.listing_reader.specs.declared.Due.TheVariants.{Names, Numbers, Columns, Entries, Word, Heading, Calls}
use Rattle.listing_reader.specs.declared.Reader.{Reader}
use Rattle.listing_reader.specs.Listing.{Sofar, Next, on, bad}

-- what was read: the reader's machine, the lent table, and the first places of the lent word and calls
unfoldable pub sofar : Reader → (t w : List ℕ) → List Call → Sofar
sofar x t w c =
    record { machine = x.machine; table = t; word = take x.word w; calls = take x.calls c }

unfoldable pub next_of : Option Reader → (t w : List ℕ) → List Call → Next
next_of (Some y) t w c = on y.due (sofar y t w c)
next_of None t w c = bad

-- ---- the lent slices after a line

-- after a bad entry line the table is unchanged
abbrev pub TableLeft : Option Reader → (t t' : List ℕ) → Type 0
TableLeft (Some y) t t' = Unit {0}
TableLeft None t t' = t' ≡ t

-- a slice with call n written into it; a bad line writes nothing
abbrev pub call_put : Option Call → (n : ℕ) → List Call → List Call
call_put (Some k) n c = set c n k
call_put None n c = c

-- the calls after a call line, where n calls were read before it
abbrev pub CallsLeft : Option Reader → (n : ℕ) → (l : List ℕ) → (c c' : List Call) → Type 0
CallsLeft (Some y) n l c c' = c' ≡ call_put (call_line l) n c
CallsLeft None n l c c' = c' ≡ c

abbrev pub Leaves : Due → Option Reader → Reader → (l t w : List ℕ) → (c : List Call) → (t' w' : List ℕ) → (c' : List Call) → Type 0
Leaves Names r x l t w c t' w' c' = (t' ≡ t) × (w' ≡ w) × (c' ≡ c)
Leaves Numbers r x l t w c t' w' c' = (t' ≡ t) × (w' ≡ w) × (c' ≡ c)
Leaves Columns r x l t w c t' w' c' = (t' ≡ t) × (w' ≡ w) × (c' ≡ c)
Leaves Entries r x l t w c t' w' c' = TableLeft r t t' × (w' ≡ w) × (c' ≡ c)
Leaves Word r x l t w c t' w' c' = (t' ≡ t) × (w' ≡ over (word_before x.machine.symbols l) w) × (c' ≡ c)
Leaves Heading r x l t w c t' w' c' = (t' ≡ t) × (w' ≡ w) × (c' ≡ c)
Leaves Calls r x l t w c t' w' c' = (t' ≡ t) × (w' ≡ w) × CallsLeft r x.calls l c c'

-- ---- ranges

pub record ReaderOk (x : Reader) : Type 0 where
  pub small : Small x.machine
  pub word_ok : x.word ≤ 81
  pub calls_ok : x.calls ≤ 64

abbrev pub TurnOk : Option Reader → Type 0
TurnOk (Some y) = ReaderOk y
TurnOk None = Unit {0}

-- the lent slices' lengths
pub record LentOk (t w c : ℕ) : Type 0 where
  pub table_long : t ≡ 4096
  pub word_long : 81 ≤ w
  pub calls_long : 64 ≤ c
