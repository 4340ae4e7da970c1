-- What `left` and `right` answer and write: one fact for each return, and what the copy requires. Assumes nothing.
use Rattle.std.specs.Prelude.{◌≡◌, refl, List, ℕ, ◌≤◌, leb, length, Err, Ok, Result, ⊤}
use Rattle.std.proofs.Common.{arith, leb-true, leb-false}
use Rattle.notation.proofs.Facts.Tests.{by_test}
use Rattle.outcome.specs.declared.Refusal.{Refusal}
use Rattle.outcome.specs.declared.Refusal.TheVariants as Why
use Rattle.machine.specs.declared.Machine.{Machine}
use Rattle.rle_stack.specs.Model.{side, places_of}
use Rattle.rle_records.specs.declared.Run.{Run}
use Rattle.rle_records.specs.Model.{records_of, room_for, written_of}
use Rattle.rle_records.proofs.Facts.Records.{records_none, room_short, room_enough}
use Rattle.rle.specs.Model.Engine.{Conf}
use Rattle.rle.specs.Fits.{engine_check}
use Rattle.rle.proofs.Facts.OperationCases.{engine_says, sides_ok}
use Rattle.rle.specs.Model.Records.{LeftOrRight, left, right, listed_on, side_answer, side_into, side_of, answer_of}

-- ---- the returns of the check

module _ (m : Machine) (s : List ℕ) (count room : ℕ) (σ : Conf) (r : Result ⊤ Refusal) (checked : r ≡ engine_check m s σ) where
  pub list_refused : (why : Refusal) → r ≡ Err why → Err why ≡ side_answer m s count room σ
  unfolding side_answer
  list_refused why e = rw (← checked, e)

  pub list_room : (x : Result ℕ Refusal) → r ≡ Ok tt → x ≡ room_for count room → x ≡ side_answer m s count room σ
  unfolding side_answer
  list_room x e p = rw (← checked, e) p

-- ---- the number of records that an answer writes

abbrev Within : (ss ls : List ℕ) (room : ℕ) → Result ℕ Refusal → Type 0
Within ss ls room t = (written_of t ≤ length ss) × (written_of t ≤ length ls) × (written_of t ≤ room)

abbrev Writes : (ss ls : List ℕ) (count : ℕ) → List Run → Result ℕ Refusal → Type 0
Writes ss ls count out t = records_of (side ss ls (written_of t)) out ≡ side_into t (side ss ls count) out

module _ (ss ls : List ℕ) (count : ℕ) (out : List Run) where
  abbrev Fine : Result ℕ Refusal → Type 0
  Fine t = Within ss ls (length out) t × Writes ss ls count out t

  refused_fine : (why : Refusal) → Fine (Err why)
  refused_fine why = ((omega arith, omega arith, omega arith), records_none ss ls out)

  room_fine : count ≤ places_of ss ls → Fine (room_for count (length out))
  room_fine h = by_test (leb count (length out))
      (λ t.
      let e : Ok count ≡ room_for count (length out) = room_enough count (length out) (leb-true count (length out) t) in
      rw (← e) ((omega arith, omega arith, leb-true count (length out) t), refl))
      (λ f. rw (← room_short count (length out) (leb-false count (length out) f)) (refused_fine Why.OutputSize))

  on_fine : (c : Result ⊤ Refusal) → (c ≡ Ok tt → count ≤ places_of ss ls) → Fine (listed_on c (room_for count (length out)))
  on_fine (Err why) h = refused_fine why
  on_fine (Ok tt) h = room_fine (h refl)

  side_fine : (m : Machine) (s : List ℕ) (σ : Conf) → (engine_check m s σ ≡ Ok tt → count ≤ places_of ss ls) → Fine (side_answer m s count (length out) σ)
  unfolding side_answer
  side_fine m s σ h = on_fine (engine_check m s σ) h

-- ---- the live runs of a value that passed have places

live : (h : LeftOrRight) (m : Machine) (s : List ℕ) (σ : Conf) → engine_check m s σ ≡ Ok tt → (side_of h σ).count ≤ places_of (side_of h σ).symbols (side_of h σ).lengths
live left m s σ passed = (sides_ok m σ (engine_says m s σ passed).fits).left.live
live right m s σ passed = (sides_ok m σ (engine_says m s σ passed).fits).right.live

-- ---- what the copy requires

pub list_fine : (h : LeftOrRight) (m : Machine) (s : List ℕ) (σ : Conf) (out : List Run) → Fine (side_of h σ).symbols (side_of h σ).lengths (side_of h σ).count out (answer_of h m s (length out) σ)
list_fine h m s σ out = side_fine (side_of h σ).symbols (side_of h σ).lengths (side_of h σ).count out m s σ (live h m s σ)
