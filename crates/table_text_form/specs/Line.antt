-- A line of the form (document 02, request 1), by rows and columns and not by the automaton; the place of refusal 19, by the lines of the form alone. In bytes 0 is 48, A 65, L 76, R 82, `-` 45 and `_` 95. Definitions only.
use Rattle.std.specs.Prelude.{◌≡◌, ◌⊎◌, List, ◌++◌, ℕ, suc, ◌+◌, ◌*◌, ◌≤◌, ◌<◌, length, get_or, take}

abbrev pub Digit : ℕ → Type 0
Digit b = (48 ≤ b) × (b ≤ 57)

-- L or R
abbrev pub Move : ℕ → Type 0
Move b = (b ≡ 76) ⊎ (b ≡ 82)

abbrev pub Letter : ℕ → Type 0
Letter b = (65 ≤ b) × (b ≤ 90)

-- "Each entry is a symbol written, L or R, and the next state's letter."  "`---` is an undefined entry."
abbrev pub EntryText : (x y z : ℕ) → Type 0
EntryText x y z = ((x ≡ 45) × (y ≡ 45) × (z ≡ 45)) ⊎ (Digit x × Move y × Letter z)

-- the place of entry a of row q, where a row has k entries; for a = k the place after the row
abbrev pub place : (k q a : ℕ) → ℕ
place k q a = q * (3 * k + 1) + 3 * a

-- the entry whose text begins at place p
abbrev pub EntryAt : List ℕ → ℕ → Type 0
EntryAt line p = EntryText (get_or line p 0) (get_or line (p + 1) 0) (get_or line (p + 2) 0)

-- "two to ten symbols and 1 to 25 lettered states"; "Rows are parted by an underscore."
pub record OfForm (rows k : ℕ) (line : List ℕ) : Type 0 where
  pub symbols_are : (2 ≤ k) × (k ≤ 10)
  pub rows_are : (1 ≤ rows) × (rows ≤ 25)
  pub size : length line + 1 ≡ rows * (3 * k + 1)
  pub entries : (q a : ℕ) → q < rows → a < k → EntryAt line (place k q a)
  pub parted : (q : ℕ) → q + 1 < rows → get_or line (place k q k) 0 ≡ 95

-- ---- the place of 19

-- a line of the form, with any rows and symbols
abbrev pub IsLine : List ℕ → Type 0
IsLine line = (rows : ℕ) × (k : ℕ) × OfForm rows k line

-- "19 malformed line (first byte that no line of the form has after those before it, or the length if it ends early)"
pub record MalformedAt (line : List ℕ) (i : ℕ) : Type 0 where
  pub inside : i ≤ length line
  -- some line of the form begins with the bytes before the place
  pub before : (rest : List ℕ) × IsLine (take i line ++ rest)
  -- no line of the form has the byte after those before it
  pub after : i < length line → (rest : List ℕ) → ¬ (IsLine (take (suc i) line ++ rest))
  -- at the length, the line ends early
  pub early : ¬ (IsLine line)
