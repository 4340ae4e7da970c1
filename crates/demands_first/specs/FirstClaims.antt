-- The first demand's claim about an operation: "A refusal leaves everything lent or passed as it was. Only the first that applies is given; where none applies,
-- nothing is refused." The lists of refusals are defined here too. Definitions only.
use Rattle.std.specs.Prelude.{◌≡◌, Bool, List, [], ◌∷◌, ℕ, Err, None, Ok, Option, Result, Some, ⊤}
use Rattle.notation.specs.Choice.{pick}
use Rattle.notation.specs.Scan.{first_fail}
use Rattle.outcome.specs.declared.Refusal.{Refusal}
use Rattle.outcome.specs.Numbers.{refusal_number}

-- ---- a list of refusals

-- a test that an operation makes, and the refusal where it fails
pub record Test : Type 0 where
  pub holds : Bool
  pub why : Refusal

abbrev pub or : Bool → Refusal → Test
or b r = record { holds = b; why = r }

-- "Only the first that applies is given; where none applies, nothing is refused."
unfoldable pub first_of : List Test → Result ⊤ Refusal
first_of [] = Ok tt
first_of (t ∷ rest) = pick t.holds (first_of rest) (Err t.why)

-- the numbers in document 01 of a list's refusals
unfoldable pub numbers_of : List Test → List ℕ
numbers_of [] = []
numbers_of (t ∷ rest) = refusal_number t.why ∷ numbers_of rest

-- the number of an answer: its refusal's number in document 01, or 0 where it is no refusal
abbrev pub number_of : Result ⊤ Refusal → ℕ
number_of (Ok tt) = 0
number_of (Err why) = refusal_number why

-- the number of the first test that fails; 0 where none does
unfoldable pub first_number : List Test → ℕ
first_number [] = 0
first_number (t ∷ rest) = pick t.holds (first_number rest) (refusal_number t.why)

-- "(lowest entry number given)", "(first place given)": the lowest of the numbers 0 to n - 1 for which the test fails; 0 where there is none
abbrev pub number_or0 : Option ℕ → ℕ
number_or0 None = 0
number_or0 (Some i) = i

abbrev pub lowest : (ℕ → Bool) → ℕ → ℕ
lowest test n = number_or0 (first_fail test n 0)

-- ---- an operation

-- `left` is the result of the operation: its answer, with every value handed back and everything that was lent for writing. `refusal` reads from it whether the
-- answer is a refusal. `as_it_was why` is the refusal `why`, with everything else as it came in.
pub record TurnsAway {X : Type 0} (numbers : List ℕ) (tests : List Test) (refusal : X → Result ⊤ Refusal) (as_it_was : Refusal → X) (left : X) : Type 0 where
  -- the refusals have document 01's numbers, in its order
  pub numbered : numbers_of tests ≡ numbers
  -- the refusal is that of the first test that fails; where none fails, the answer is no refusal
  pub first : refusal left ≡ first_of tests
  -- after any refusal everything is as it came in
  pub unchanged : (why : Refusal) → refusal left ≡ Err why → left ≡ as_it_was why

-- ---- the refusal in an answer: `number_of` gives its number, and the answer's other case holds the result

abbrev pub refusal_of : {A : Type 0} → Result A Refusal → Result ⊤ Refusal
refusal_of (Ok x) = Ok tt
refusal_of (Err why) = Err why
