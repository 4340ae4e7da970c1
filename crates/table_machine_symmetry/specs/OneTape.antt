-- A one-tape table with L and R exchanged, and with its states permuted, in document 01's layout; a configuration reflected, and one with the state renamed, in
-- request 10's words. Nothing here cites `Mirror`, `Renaming` or `Bytes`. Definitions only.
use Rattle.std.specs.Prelude.{◌≡◌, List, ℕ, ◌+◌, ◌*◌, ◌<◌, eqb, ℤ, neg_ℤ, length}
use Rattle.notation.specs.Choice.{pick}
use Rattle.machine.specs.declared.Machine.{Machine}
use Rattle.machine.specs.Layout.{byte_at}
use Rattle.table_machine.specs.TableMachine.{Config}
use Rattle.table_machine_symmetry.specs.Claims.{AcceptedTable}

-- "a one-tape table" that the table check accepts
pub record OneTape (m : Machine) (s : List ℕ) : Type 0 where
  pub single : m.tapes ≡ 1
  pub table : AcceptedTable m s

-- ---- "exchanging L and R"

-- "6 is d0 + 3 × d1 + 9 × d2 with L 0, R 1, N 2", and a tape the machine lacks has move N: so byte 6 of a one-tape entry is 24 for L, 25 for R, 26 for N
abbrev pub exchanged : ℕ → ℕ
exchanged b = pick (eqb b 24) 25 (pick (eqb b 25) 24 b)

-- t is s with L and R exchanged: byte 6 of each entry is exchanged, and every other byte stays
pub record MovesExchanged (s t : List ℕ) : Type 0 where
  pub same_length : length t ≡ length s
  pub moves : (i : ℕ) → byte_at t i 6 ≡ exchanged (byte_at s i 6)
  pub rest : (i j : ℕ) → j < 8 → ¬ (j ≡ 6) → byte_at t i j ≡ byte_at s i j

-- d is c reflected: "negates the head and reflects the cells and the extent"
pub record Reflected (c d : Config) : Type 0 where
  pub state : d.state ≡ c.state
  pub steps : d.steps ≡ c.steps
  pub head : d.tape0.head ≡ neg_ℤ c.tape0.head
  pub cells : (z : ℤ) → d.tape0.cell (neg_ℤ z) ≡ c.tape0.cell z
  pub lowest : d.tape0.low ≡ neg_ℤ c.tape0.high
  pub highest : d.tape0.high ≡ neg_ℤ c.tape0.low

-- ---- "permuting a one-tape table's states, start included"

-- table t of machine p is table s of machine m with each state q renamed to `to q`: entry q × k + a of s has become entry `to q` × k + a of t
pub record StatesPermuted (to : ℕ → ℕ) (m : Machine) (s : List ℕ) (p : Machine) (t : List ℕ) : Type 0 where
  pub same_tapes : p.tapes ≡ m.tapes
  pub same_symbols : p.symbols ≡ m.symbols
  pub same_states : p.states ≡ m.states
  -- "start included"
  pub start : p.start ≡ to m.start
  pub same_length : length t ≡ length s
  -- "An undefined entry is eight zeros."
  pub undefined : (q a j : ℕ) → q < m.states → a < m.symbols → j < 8 → byte_at s (q * m.symbols + a) 0 ≡ 0 → byte_at t (to q * m.symbols + a) j ≡ 0
  -- "bytes 1 and 2 the next state, low byte first"
  pub next : (q a : ℕ) → q < m.states → a < m.symbols → byte_at s (q * m.symbols + a) 0 ≡ 1
      → byte_at t (to q * m.symbols + a) 1 + 256 * byte_at t (to q * m.symbols + a) 2 ≡ to (byte_at s (q * m.symbols + a) 1 + 256 * byte_at s (q * m.symbols + a) 2)
  -- all other bytes of an entry stay
  pub rest : (q a j : ℕ) → q < m.states → a < m.symbols → j < 8 → ¬ (j ≡ 1) → ¬ (j ≡ 2)
      → byte_at t (to q * m.symbols + a) j ≡ byte_at s (q * m.symbols + a) j

-- d is c with the state renamed: "the same steps, head and cells, the state renamed", and the same extent
pub record StateRenamed (to : ℕ → ℕ) (c d : Config) : Type 0 where
  pub state : d.state ≡ to c.state
  pub steps : d.steps ≡ c.steps
  pub head : d.tape0.head ≡ c.tape0.head
  pub cells : (z : ℤ) → d.tape0.cell z ≡ c.tape0.cell z
  pub lowest : d.tape0.low ≡ c.tape0.low
  pub highest : d.tape0.high ≡ c.tape0.high
