-- What a line of the form says, in document 02's words. In bytes 0 is 48, A 65, L 76, R 82, Z 90, `-` 45 and `_` 95. Definitions only.
use Rattle.machine.specs.declared.Action.{Action}
use Rattle.std.specs.Prelude.{◌≡◌, ◌⊎◌, List, ℕ, ◌+◌, ◌*◌, ◌≤◌, ◌<◌, get_or, None, Option, Some}
use Rattle.symbol.specs.declared.Dir.{Dir}
use Rattle.symbol.specs.declared.Dir.TheVariants.{L, R, N}
use Rattle.machine.specs.Layout.{entry_at}
use Rattle.table_text_form.specs.Line.{Digit, Letter, place, OfForm}

-- ---- "20 a letter other than Z, or a digit, that the line's rows lack"

abbrev pub LacksDigit : (k b : ℕ) → Type 0
LacksDigit k b = Digit b × (48 + k ≤ b)

abbrev pub LacksLetter : (rows b : ℕ) → Type 0
LacksLetter rows b = Letter b × ¬ (b ≡ 90) × (65 + rows ≤ b)

-- place i has such a byte: a digit where an entry's symbol is, or a letter where its next state is
abbrev pub LacksAt : (rows k : ℕ) → List ℕ → ℕ → Type 0
LacksAt rows k line i =
    (q : ℕ) × (a : ℕ) × (q < rows) × (a < k)
    × (((i ≡ place k q a) × LacksDigit k (get_or line i 0)) ⊎ ((i ≡ place k q a + 2) × LacksLetter rows (get_or line i 0)))

-- i is the first such place
pub record FirstLacking (line : List ℕ) (i : ℕ) : Type 0 where
  pub rows : ℕ
  pub symbols : ℕ
  pub of_form : OfForm rows symbols line
  pub lacks : LacksAt rows symbols line i
  pub first : (j : ℕ) → j < i → ¬ (LacksAt rows symbols line j)

-- a line of the form that neither 19 nor 20 refuses
pub record GoodLine (rows k : ℕ) (line : List ℕ) : Type 0 where
  pub of_form : OfForm rows k line
  pub has : (i : ℕ) → ¬ (LacksAt rows k line i)

-- ---- "Each entry is a symbol written, L or R, and the next state's letter."  "`---` is an undefined entry."  "Z is a halting state", the one of row z

-- y is the letter of a move; N has none
abbrev pub MoveOf : ℕ → Dir → Type 0
MoveOf y L = y ≡ 76
MoveOf y R = y ≡ 82
MoveOf y N = ⊥

-- c is the letter of state q
abbrev pub LetterOf : (z c q : ℕ) → Type 0
LetterOf z c q = ((c ≡ 90) × (q ≡ z)) ⊎ ((c ≡ 65 + q) × (q < z))

-- the bytes x, y and c are the text of an entry
abbrev pub Says : (z x y c : ℕ) → Option Action → Type 0
Says z x y c None = (x ≡ 45) × (y ≡ 45) × (c ≡ 45)
Says z x y c (Some a) = (x ≡ 48 + a.write0.0) × MoveOf y a.dir0 × LetterOf z c a.next.0

-- entry a of row q of a line is that of a table
abbrev pub SaysAt : (z k : ℕ) → List ℕ → List ℕ → (q a : ℕ) → Type 0
SaysAt z k line s q a = Says z (get_or line (place k q a) 0) (get_or line (place k q a + 1) 0) (get_or line (place k q a + 2) 0) (entry_at s (q * k + a))

-- row q is "`---` throughout"
abbrev pub DashedRow : (k : ℕ) → List ℕ → ℕ → Type 0
DashedRow k line q = (a : ℕ) → a < k → (get_or line (place k q a) 0 ≡ 45) × (get_or line (place k q a + 1) 0 ≡ 45) × (get_or line (place k q a + 2) 0 ≡ 45)
