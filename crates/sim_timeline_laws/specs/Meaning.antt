-- The plain engine as a kind of engine: the meaning of its value, one step of it, and which step is full. Definitions only; `FullStep` is the rule of space.
use Rattle.std.specs.Prelude.{◌≡◌, Bool, true, false, List, ℕ, ◌+◌, ◌-◌, ◌<◌, eqb, ltb, length, None, Option, Some}
use Rattle.notation.specs.Choice.{pick, both}
use Rattle.symbol.specs.declared.Dir.{Dir}
use Rattle.symbol.specs.declared.Dir.TheVariants.{L, R, N}
use Rattle.machine.specs.declared.Machine.{Machine}
use Rattle.machine.specs.declared.Action.{Action}
use Rattle.table_machine.specs.TableMachine.{Config, entry, step}
use Rattle.table_machine.specs.Tables.{table_of}
use Rattle.tape.specs.Model.Moves.{Held}
use Rattle.sim.specs.Model.Engine.{Conf, tape0, tape1, tape2}
use Rattle.sim_refines.specs.Meaning.{has, config_of}
use Rattle.sim_refines.specs.Lent.{SameFirst}
use Rattle.timeline_laws.specs.Automaton.{iterate}
use Rattle.timeline_laws.specs.Meaning.{EngineMeaning}
use Rattle.sim_slots.specs.Model.Kind.{plain_kind}

-- ---- "Moving off either end doubles the length, new blanks on that side; full exactly when that passes the buffer, on any tape."

-- how a tape lies in its buffer: its length, the index of the cell under its head, and the buffer's length
pub record Extent : Type 0 where
  pub len : ℕ
  pub head : ℕ
  pub buffer : ℕ

-- the move goes off an end: left from the first cell, or right from the last
abbrev pub moves_off : Extent → Dir → Bool
moves_off x L = eqb x.head 0
moves_off x R = eqb (x.head + 1) x.len
moves_off x N = false

-- twice the length; where the new blanks are on the left, the index of the head grows by the old length
abbrev pub doubled : Extent → Dir → Extent
doubled x L = record { len = x.len + x.len; head = x.head + x.len; buffer = x.buffer }
doubled x R = record { len = x.len + x.len; head = x.head; buffer = x.buffer }
doubled x N = x

-- the head moved by one cell
abbrev pub head_moved : Extent → Dir → Extent
head_moved x L = record { len = x.len; head = x.head - 1; buffer = x.buffer }
head_moved x R = record { len = x.len; head = x.head + 1; buffer = x.buffer }
head_moved x N = x

-- a move; if it goes off an end, the length is doubled first
unfoldable pub moved_by : Extent → Dir → Extent
moved_by x d = head_moved (pick (moves_off x d) (doubled x d) x) d

-- the move goes off an end, and twice the length is more than the buffer's length
unfoldable pub passes : Extent → Dir → Bool
passes x d = both (moves_off x d) (ltb x.buffer (x.len + x.len))

-- ---- the meaning of an engine's value

abbrev pub extent_of : Held → Extent
extent_of h = record { len = h.tape.len; head = h.tape.head; buffer = length h.cells }

-- the extent of a tape that the machine lacks, which never moves
abbrev pub no_extent : Extent
no_extent = record { len = 0; head = 0; buffer = 0 }

abbrev pub extent_if : (has : Bool) → Held → Extent
extent_if true h = extent_of h
extent_if false h = no_extent

-- The configuration that the engine holds, and how its tapes lie in their buffers: these determine all later answers. (The bytes in the buffers past the
-- tapes' lengths do not, nor do the fields of tapes that the machine lacks.)
pub record Mean : Type 0 where
  pub config : Config
  pub extent0 : Extent
  pub extent1 : Extent
  pub extent2 : Extent

unfoldable pub mean_of : Machine → Conf → Mean
mean_of m σ = record {
  config = config_of m σ;
  extent0 = extent_of (tape0 σ);
  extent1 = extent_if (has m 1) (tape1 σ);
  extent2 = extent_if (has m 2) (tape2 σ);
}

-- ---- one step: the table machine's, and each tape's move; without an entry the machine has halted, and nothing moves

abbrev pub moved_on : Extent → (Action → Dir) → Option Action → Extent
moved_on x dir None = x
moved_on x dir (Some a) = moved_by x (dir a)

unfoldable pub next_of : Machine → List ℕ → Mean → Mean
next_of m s x = record {
  config = step (table_of m s) x.config;
  extent0 = moved_on x.extent0 (λ a. a.dir0) (entry (table_of m s) x.config);
  extent1 = moved_on x.extent1 (λ a. a.dir1) (entry (table_of m s) x.config);
  extent2 = moved_on x.extent2 (λ a. a.dir2) (entry (table_of m s) x.config);
}

-- ---- when that step is full: there is an entry, and its move on some tape passes the buffer

pub data SomePasses (x : Mean) (a : Action) : Type 0 where
  first : passes x.extent0 a.dir0 ≡ true → SomePasses x a
  second : passes x.extent1 a.dir1 ≡ true → SomePasses x a
  third : passes x.extent2 a.dir2 ≡ true → SomePasses x a

abbrev pub NoRoom : Machine → List ℕ → Mean → Type 0
NoRoom m s x = (a : Action) × (entry (table_of m s) x.config ≡ Some a) × SomePasses x a

-- after j steps from the engine e, the next step is full
abbrev pub FullStep : Machine → (table : List ℕ) → Conf → ℕ → Type 0
FullStep m s e j = NoRoom m s (iterate (next_of m s) j (mean_of m e))

-- ---- when two engines are the same, in buffers of the same lengths: all that document 01 determines is equal. (It does not determine the bytes past the tapes'
-- lengths; the fields of tapes that the machine lacks are not compared.)

pub record SameEngine (m : Machine) (v u : Conf) : Type 0 where
  pub state : v.sim.state ≡ u.sim.state
  pub steps : v.sim.steps ≡ u.sim.steps
  -- a tape's numbers: length, head, origin, lowest, highest
  pub numbers0 : v.sim.t0 ≡ u.sim.t0
  pub numbers1 : 1 < m.tapes → v.sim.t1 ≡ u.sim.t1
  pub numbers2 : 2 < m.tapes → v.sim.t2 ≡ u.sim.t2
  -- its cells, up to its length
  pub cells0 : SameFirst u.sim.t0.len v.c0 u.c0
  pub cells1 : 1 < m.tapes → SameFirst u.sim.t1.len v.c1 u.c1
  pub cells2 : 2 < m.tapes → SameFirst u.sim.t2.len v.c2 u.c2
  pub length0 : length v.c0 ≡ length u.c0
  pub length1 : length v.c1 ≡ length u.c1
  pub length2 : length v.c2 ≡ length u.c2

-- ---- the kind of engine, with the configuration that it holds and that rule

abbrev pub plain_engine : EngineMeaning
plain_engine = record {
  kind = plain_kind;
  config = config_of;
  FullStep = FullStep;
  Same = SameEngine;
}
