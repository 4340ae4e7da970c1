-- Which tables have a line, in document 02's words. Definitions only.
use Rattle.std.specs.Prelude.{◌≡◌, ◌⊎◌, List, ℕ, ◌+◌, ◌*◌, ◌≤◌, ◌<◌, None, Some}
use Rattle.symbol.specs.declared.Dir.TheVariants.{N}
use Rattle.machine.specs.declared.Machine.{Machine}
use Rattle.machine.specs.declared.Action.{Action}
use Rattle.machine.specs.Layout.{entry_at}

-- row q of a table of one tape and k symbols
abbrev pub RowUndefined : (k : ℕ) → List ℕ → ℕ → Type 0
RowUndefined k s q = (a : ℕ) → a < k → entry_at s (q * k + a) ≡ None

-- "Writing takes a last row that is all undefined as Z's."
abbrev pub Lettered : Machine → List ℕ → ℕ → Type 0
Lettered m s z = ((z + 1 ≡ m.states) × RowUndefined m.symbols s z) ⊎ ((z ≡ m.states) × ((q : ℕ) → q + 1 ≡ m.states → ¬ (RowUndefined m.symbols s q)))

-- a table with z lettered rows that 21 does not refuse; 21 refuses "a table with several tapes, symbols not 2 to 10, lettered rows not 1 to 25, a start other than 0, an N move, or an undefined row before the last"
pub record HasLine (m : Machine) (s : List ℕ) (z : ℕ) : Type 0 where
  pub one_tape_holds : m.tapes ≡ 1
  pub symbols_are : (2 ≤ m.symbols) × (m.symbols ≤ 10)
  pub lettered : Lettered m s z
  pub rows_are : (1 ≤ z) × (z ≤ 25)
  pub start_is : m.start ≡ 0
  pub moves : (i : ℕ) (a : Action) → i < m.states * m.symbols → entry_at s i ≡ Some a → ¬ (a.dir0 ≡ N)
  pub before_last : (q : ℕ) → q + 1 < m.states → ¬ (RowUndefined m.symbols s q)
