-- The tape questions `left` and `right`: what they answer, and what they leave in the lent slice of records. Definitions
-- only.
use Rattle.outcome.specs.declared.Refusal.{Refusal}
use Rattle.std.specs.Prelude.{List, ℕ, length, Err, Ok, Result, ⊤}
use Rattle.machine.specs.declared.Machine.{Machine}
use Rattle.rle_stack.specs.Model.{Side}
use Rattle.rle_records.specs.declared.Run.{Run}
use Rattle.rle_records.specs.Model.{records_of, room_for}
use Rattle.rle.specs.Model.Engine.{Conf, left_of, right_of}
use Rattle.rle.specs.Fits.{engine_check}

-- the refusal of a check, else `rest`
abbrev pub listed_on : Result ⊤ Refusal → Result ℕ Refusal → Result ℕ Refusal
listed_on (Err why) rest = Err why
listed_on (Ok tt) rest = rest

-- "8, 11, 12 .. then 18 for too short a record slice", else how many runs there are
unfoldable pub side_answer : Machine → List ℕ → (count room : ℕ) → Conf → Result ℕ Refusal
side_answer m s count room σ = listed_on (engine_check m s σ) (room_for count room)

-- the slice afterwards: the side's runs in its first places, the rest unchanged; a refusal leaves it all unchanged
abbrev pub side_into : Result ℕ Refusal → Side → List Run → List Run
side_into (Ok count) x out = records_of x out
side_into (Err why) x out = out

-- ---- the two sides

-- which side of the tape, and a choice by it
pub data LeftOrRight : Type 0 where
  left right : LeftOrRight

abbrev pub by_side : {A : Type 0} → LeftOrRight → A → A → A
by_side left l r = l
by_side right l r = r

abbrev pub side_of : LeftOrRight → Conf → Side
side_of h σ = by_side h (left_of σ) (right_of σ)

abbrev pub answer_of : LeftOrRight → Machine → List ℕ → (room : ℕ) → Conf → Result ℕ Refusal
answer_of h m s room σ = side_answer m s (side_of h σ).count room σ

abbrev pub into_of : LeftOrRight → Machine → List ℕ → Conf → List Run → List Run
into_of h m s σ out = side_into (answer_of h m s (length out) σ) (side_of h σ) out

abbrev pub left_answer : Machine → List ℕ → (room : ℕ) → Conf → Result ℕ Refusal
left_answer = answer_of left

abbrev pub left_into : Machine → List ℕ → Conf → List Run → List Run
left_into = into_of left

abbrev pub right_answer : Machine → List ℕ → (room : ℕ) → Conf → Result ℕ Refusal
right_answer = answer_of right

abbrev pub right_into : Machine → List ℕ → Conf → List Run → List Run
right_into = into_of right
