-- THE TABLE THAT A LISTING GIVES, by the text of its lines (document 01, "Listing"). Definitions only.
use Rattle.std.specs.Prelude.{ℕ, ◌<◌, ◌≡◌, List, [], ◌∷◌, ◌++◌, length, get_or, None, Some}
use Rattle.symbol.specs.declared.Dir.{Dir}
use Rattle.symbol.specs.declared.Dir.TheVariants.{L, R, N}
use Rattle.symbol.specs.Kinds.{symbol_of, state_of}
use Rattle.machine.specs.declared.Machine.{Machine}
use Rattle.machine.specs.Layout.{single_of}
use Rattle.table_machine.specs.Tables.{table_of}
use Rattle.listing_text.specs.Text.{bytes}
use Rattle.listing_text.specs.Pieces.{lines}
use Rattle.listing_text.specs.Show.{show}

-- "Single spaces part fields"
unfoldable pub joined : List (List ℕ) → List ℕ
joined [] = []
joined (f ∷ []) = f
joined (f ∷ g ∷ fs) = f ++ 32 ∷ joined (g ∷ fs)

abbrev pub letter_of : Dir → List ℕ
letter_of L = bytes "L"
letter_of R = bytes "R"
letter_of N = bytes "N"

-- the line under `tapes symbols states start`
unfoldable pub machine_text : Machine → List ℕ
machine_text m = joined (show m.tapes ∷ show m.symbols ∷ show m.states ∷ show m.start ∷ [])

-- a line under `state read write move next`
unfoldable pub entry_text : (state read write : ℕ) (move : Dir) (next : ℕ) → List ℕ
entry_text q a w d r = joined (show q ∷ show a ∷ show w ∷ letter_of d ∷ show r ∷ [])

-- the line is `q a w d r`, with its numbers in their ranges
pub record Gives (m : Machine) (l : List ℕ) (q a w : ℕ) (d : Dir) (r : ℕ) : Type 0 where
  pub state_in_holds : q < m.states
  pub read_in : a < m.symbols
  pub write_in : w < m.symbols
  pub next_in : r < m.states
  pub text : l ≡ entry_text q a w d r

-- what the lines of an accepted listing s say about its machine m and its table t
pub record GivesTable (s : List ℕ) (m : Machine) (t : List ℕ) : Type 0 where
  -- the entry lines are those between the third line and the line `word`
  pub entries : List (List ℕ)
  pub rest : List (List ℕ)
  pub are : lines s ≡ bytes "tapes symbols states start" ∷ machine_text m ∷ bytes "state read write move next" ∷ (entries ++ bytes "word" ∷ rest)
  -- "Entry lines come in any order; there may be none": each has this form
  pub each : (i : ℕ) → i < length entries
      → (q : ℕ) × (a : ℕ) × (w : ℕ) × (d : Dir) × (r : ℕ) × Gives m (get_or entries i []) q a w d r
  -- the line `q a w d r` defines the entry for state q and symbol a as exactly that action
  pub given : (i q a w : ℕ) (d : Dir) (r : ℕ) → i < length entries → Gives m (get_or entries i []) q a w d r
      → table_of m t q a 0 0 ≡ Some (single_of (symbol_of w) d (state_of r))
  -- where no line gives an entry for a state and a symbol, the table has none
  pub ungiven : (q a : ℕ) → q < m.states → a < m.symbols
      → ((i w : ℕ) (d : Dir) (r : ℕ) → i < length entries → ¬ Gives m (get_or entries i []) q a w d r)
      → table_of m t q a 0 0 ≡ None
