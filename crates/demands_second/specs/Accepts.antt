-- The inputs that document 01 accepts, in its words: words, buffers and run places, engine values, packed words. Definitions only.
use Rattle.std.specs.Prelude.{◌≡◌, List, ℕ, ◌+◌, ◌*◌, ◌≤◌, ◌<◌, ◌^◌, length, get_or, Ok}
use Rattle.machine.specs.declared.Machine.{Machine}
use Rattle.machine.specs.Model.Packing.{pack_word, pack_check, pack_into}
use Rattle.table_laws.specs.WellFormed.{LaidOut, WellFormed}
use Rattle.table_machine.specs.TableMachine.{start_tape}
use Rattle.sim.specs.Model.Engine as Plain
use Rattle.sim.specs.Model.Operations.{bare_of}
use Rattle.sim_refines.specs.Meaning.{EngineFits}
use Rattle.rle_stack.specs.Model.{places_of}
use Rattle.rle.specs.Model.Engine as Chain
use Rattle.rle_refines.specs.Meaning.{Stack, empty, ChainFits}
use Rattle.rle_refines.specs.Full.{height, Stacked}

-- "9 word over 1,048,576; 10 a word symbol not below k"
pub record WordOf (m : Machine) (w : List ℕ) : Type 0 where
  pub short : length w ≤ 1048576
  pub symbols : (i : ℕ) → i < length w → get_or w i 0 < m.symbols

-- ---- the plain engine

-- "11 a cells buffer under word + 32 (other tapes 32) or over 2^30 .. Tapes the machine lacks need none."
pub record FreshCells (m : Machine) (w c0 c1 c2 : List ℕ) : Type 0 where
  pub cells0 : (length w + 32 ≤ length c0) × (length c0 ≤ 2 ^ 30)
  pub cells1 : 2 ≤ m.tapes → (32 ≤ length c1) × (length c1 ≤ 2 ^ 30)
  pub cells2 : 3 ≤ m.tapes → (32 ≤ length c2) × (length c2 ≤ 2 ^ 30)

-- a table, buffers and an engine value: "11 for the upper sizes; 12 an engine value that doesn't fit", both only for the tapes that the machine has
pub record PlainTaken (m : Machine) (s : List ℕ) (σ : Plain.Conf) : Type 0 where
  pub table : WellFormed m s
  pub cells0 : length σ.c0 ≤ 2 ^ 30
  pub cells1 : 2 ≤ m.tapes → length σ.c1 ≤ 2 ^ 30
  pub cells2 : 3 ≤ m.tapes → length σ.c2 ≤ 2 ^ 30
  pub value : EngineFits m (bare_of m σ)

-- "7 packed words not the table's (fast run; more than one tape also counts)": place i holds the packed word of the entry at place i of the table
pub record PackedOf (m : Machine) (s words : List ℕ) : Type 0 where
  pub single : m.tapes ≡ 1
  pub number : length words ≡ m.states * m.symbols
  pub each : (i : ℕ) → i < m.states * m.symbols → (l : LaidOut m s i) → get_or words i 0 ≡ pack_word l.entry m.symbols

-- ---- the run-length engine

-- "8 more than one tape (chain only); .. 11 .. fewer right run places than the word's right stack has runs, or a run side over 1,048,576": the right stack is that
-- of the start tape, whose left stack is empty
pub record FreshPlaces (m : Machine) (w ls ll rs rl : List ℕ) : Type 0 where
  pub single : m.tapes ≡ 1
  pub lefts : places_of ls ll ≤ 1048576
  pub rights : places_of rs rl ≤ 1048576
  pub right : Stack
  pub stacked : Stacked m.symbols (start_tape w) empty right
  pub room : height right ≤ places_of rs rl

-- a table, run places and an engine value: "8; 11 for the upper sizes; 12 an engine value that doesn't fit"
pub record ChainTaken (m : Machine) (s : List ℕ) (σ : Chain.Conf) : Type 0 where
  pub table : WellFormed m s
  pub single : m.tapes ≡ 1
  pub lefts : places_of σ.ls σ.ll ≤ 1048576
  pub rights : places_of σ.rs σ.rl ≤ 1048576
  pub value : ChainFits m σ

-- ---- packing a table

-- packing a table: it is accepted, each packed word is in its place of the output, and the places past them are as they were
pub record Packs (m : Machine) (s out : List ℕ) : Type 0 where
  pub answers : pack_check m s (length out) ≡ Ok tt
  pub same_length : length (pack_into m s out) ≡ length out
  pub each : (i : ℕ) → i < m.states * m.symbols → (l : LaidOut m s i) → get_or (pack_into m s out) i 0 ≡ pack_word l.entry m.symbols
  pub rest : (i : ℕ) → m.states * m.symbols ≤ i → get_or (pack_into m s out) i 0 ≡ get_or out i 0
