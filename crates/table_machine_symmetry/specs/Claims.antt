-- What is claimed of a table's mirror and of its renamings (document 02, request 10), for one to three tapes: whole configurations of the table machine are equal.
-- Definitions only.
use Rattle.std.specs.Prelude.{◌≡◌, ◌↔◌, List, [], ℕ, ◌<◌, get_or, Ok}
use Rattle.outcome.specs.declared.Outcome.{Outcome}
use Rattle.machine.specs.declared.Machine.{Machine}
use Rattle.machine.specs.Model.Check.{table_check}
use Rattle.table_laws.specs.WellFormed.{Bytes}
use Rattle.table_machine.specs.TableMachine.{Config, run, start, Halted, Verdict}
use Rattle.table_machine.specs.Tables.{table_of}
use Rattle.table_machine_symmetry.specs.Mirror.{mirrored_entry, mirrored_config, mirrored_outcome}
use Rattle.table_machine_symmetry.specs.Renaming.{renamed_entry, renamed_machine, renamed_config, renamed_outcome}
use Rattle.table_machine_symmetry.specs.Bytes.{mirrored_bytes, renamed_bytes}

-- the table's bytes are a table that the table check accepts
pub record AcceptedTable (m : Machine) (s : List ℕ) : Type 0 where
  pub bytes : Bytes s
  pub accepted : table_check m s ≡ Ok tt

-- a word of symbols below k
abbrev pub WordBelow : (k : ℕ) → List ℕ → Type 0
WordBelow k word = (j : ℕ) → get_or word j 0 < k

-- the configuration after n steps from a word
abbrev pub after : Machine → List ℕ → (word : List ℕ) → ℕ → Config
after m s word n = run (table_of m s) n (start m.start word)

-- its verdict
abbrev pub VerdictAfter : Machine → List ℕ → (word : List ℕ) → ℕ → Outcome → Type 0
VerdictAfter m s word n o = Verdict m.tapes (table_of m s) (after m s word n) o

abbrev pub HaltedAfter : Machine → List ℕ → (word : List ℕ) → ℕ → Type 0
HaltedAfter m s word n = Halted (table_of m s) (after m s word n)

-- the symbols that the machine may read on its three tapes: below k, and blank on a tape that it lacks
pub record Reads (m : Machine) (x y z : ℕ) : Type 0 where
  pub first : x < m.symbols
  pub second : y < m.symbols
  pub third : z < m.symbols
  pub lacks1 : m.tapes < 2 → y ≡ 0
  pub lacks2 : m.tapes < 3 → z ≡ 0

-- the mirror of table s of machine m, from a blank tape
pub record Mirrored (m : Machine) (s : List ℕ) : Type 0 where
  pub table : AcceptedTable m (mirrored_bytes m s)
  pub entries : (q x y z : ℕ) → table_of m (mirrored_bytes m s) q x y z ≡ mirrored_entry (table_of m s q x y z)
  pub twice : mirrored_bytes m (mirrored_bytes m s) ≡ s
  pub runs : (n : ℕ) → after m (mirrored_bytes m s) [] n ≡ mirrored_config (after m s [] n)
  pub verdicts : (n : ℕ) (o : Outcome) → VerdictAfter m (mirrored_bytes m s) [] n (mirrored_outcome o) ↔ VerdictAfter m s [] n o
  pub halts : (n : ℕ) → HaltedAfter m (mirrored_bytes m s) [] n ↔ HaltedAfter m s [] n

-- table s of machine m with its states renamed, from any word
pub record Renamed (to from : ℕ → ℕ) (m : Machine) (s : List ℕ) : Type 0 where
  pub table : AcceptedTable (renamed_machine to m) (renamed_bytes to from m s)
  pub entries : (q x y z : ℕ) → q < m.states → Reads m x y z
      → table_of (renamed_machine to m) (renamed_bytes to from m s) (to q) x y z ≡ renamed_entry to (table_of m s q x y z)
  pub back : (renamed_machine from (renamed_machine to m) ≡ m) × (renamed_bytes from to (renamed_machine to m) (renamed_bytes to from m s) ≡ s)
  pub runs : (word : List ℕ) → WordBelow m.symbols word → (n : ℕ)
      → after (renamed_machine to m) (renamed_bytes to from m s) word n ≡ renamed_config to (after m s word n)
  pub verdicts : (word : List ℕ) → WordBelow m.symbols word → (n : ℕ) (p : Outcome)
      → VerdictAfter (renamed_machine to m) (renamed_bytes to from m s) word n p ↔ ((o : Outcome) × VerdictAfter m s word n o × (renamed_outcome to o ≡ p))
  pub halts : (word : List ℕ) → WordBelow m.symbols word → (n : ℕ)
      → HaltedAfter (renamed_machine to m) (renamed_bytes to from m s) word n ↔ HaltedAfter m s word n
