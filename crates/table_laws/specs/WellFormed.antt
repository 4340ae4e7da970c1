-- Well-formed tables, defined by document 01's description of the layout and not by the check. Definitions only.
use Rattle.std.specs.Prelude.{◌≡◌, List, [], ◌∷◌, ℕ, zero, suc, ◌+◌, ◌*◌, ◌/◌, ◌%◌, ◌≤◌, ◌<◌, length, get_or, None, Option, Some}
use Rattle.symbol.specs.declared.Dir.TheVariants.{N}
use Rattle.outcome.specs.declared.Refusal.{Refusal}
use Rattle.outcome.specs.Numbers.{refusal_number, place_of}
use Rattle.machine.specs.declared.Machine.{Machine}
use Rattle.machine.specs.declared.Action.{Action}
use Rattle.machine.specs.Layout.{entry_count, byte_at}
use Rattle.symbol.specs.Kinds.{dir_number}

-- a list of bytes
abbrev pub Bytes : List ℕ → Type 0
Bytes s = (j : ℕ) → get_or s j 0 < 256

-- "Eight bytes each: byte 0 is 1 for a defined entry; bytes 1 and 2 the next state, low byte first; 3 to 5 the writes;
-- 6 is d0 + 3 × d1 + 9 × d2 with L 0, R 1, N 2; 7 is 0. An undefined entry is eight zeros."
abbrev pub entry_bytes : Option Action → List ℕ
entry_bytes None = 0 ∷ 0 ∷ 0 ∷ 0 ∷ 0 ∷ 0 ∷ 0 ∷ 0 ∷ []
entry_bytes (Some a) =
    1 ∷ (a.next.0 % 256) ∷ (a.next.0 / 256) ∷ a.write0.0 ∷ a.write1.0 ∷ a.write2.0
    ∷ (dir_number a.dir0 + 3 * dir_number a.dir1 + 9 * dir_number a.dir2) ∷ 0 ∷ []

-- an action of the machine: "A tape the machine lacks has write 0, move N."
pub record ActionOf (m : Machine) (a : Action) : Type 0 where
  pub next_in : a.next.0 < m.states
  pub write0_in : a.write0.0 < m.symbols
  pub write1_in : a.write1.0 < m.symbols
  pub write2_in : a.write2.0 < m.symbols
  pub lacks1 : m.tapes < 2 → (a.write1.0 ≡ 0) × (a.dir1 ≡ N)
  pub lacks2 : m.tapes < 3 → (a.write2.0 ≡ 0) × (a.dir2 ≡ N)

abbrev pub EntryOf : Machine → Option Action → Type 0
EntryOf m None = Unit {0}
EntryOf m (Some a) = ActionOf m a

-- place i of the table holds the bytes of an entry of the machine
pub record LaidOut (m : Machine) (s : List ℕ) (i : ℕ) : Type 0 where
  pub entry : Option Action
  pub of_machine : EntryOf m entry
  pub written : (j : ℕ) → j < 8 → byte_at s i j ≡ get_or (entry_bytes entry) j 0

-- the conditions on a table, each with the number of the refusal that is given where it fails
abbrev pub Asked : Machine → List ℕ → ℕ → Type 0
Asked m s zero = Unit {0}
Asked m s (suc zero) = (1 ≤ m.tapes) × (m.tapes ≤ 3)
Asked m s (suc (suc zero)) = (1 ≤ m.symbols) × (m.symbols ≤ 256)
Asked m s (suc (suc (suc zero))) = (1 ≤ m.states) × (m.states ≤ 65536)
Asked m s (suc (suc (suc (suc zero)))) = m.start < m.states
Asked m s (suc (suc (suc (suc (suc zero))))) = length s ≡ 8 * entry_count m
Asked m s (suc (suc (suc (suc (suc (suc zero)))))) = (i : ℕ) → i < entry_count m → LaidOut m s i
Asked m s (suc (suc (suc (suc (suc (suc (suc n))))))) = Unit {0}

abbrev pub WellFormed : Machine → List ℕ → Type 0
WellFormed m s = (n : ℕ) → Asked m s n

-- "lowest entry number given"
abbrev pub Lowest : Machine → List ℕ → Option ℕ → Type 0
Lowest m s None = Unit {0}
Lowest m s (Some i) = (i < entry_count m) × ¬ (LaidOut m s i) × ((j : ℕ) → j < i → LaidOut m s j)

-- "Only the first that applies is given."
pub record FirstRefusal (m : Machine) (s : List ℕ) (why : Refusal) : Type 0 where
  pub applies : ¬ (Asked m s (refusal_number why))
  pub first : (n : ℕ) → n < refusal_number why → Asked m s n
  pub lowest : Lowest m s (place_of why)
