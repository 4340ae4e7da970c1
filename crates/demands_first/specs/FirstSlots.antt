-- The meaning of an engine value for a timeline over it, for each kind of engine, and the engine that the bytes of a slot encode. Definitions only.
use Rattle.std.specs.Prelude.{List, ℕ, ◌+◌, ◌*◌, length, take, drop, get_or}
use Rattle.notation.specs.Choice.{pick}
use Rattle.symbol.specs.Kinds.{state_of}
use Rattle.machine.specs.declared.Machine.{Machine}
use Rattle.tape.specs.declared.Tape.{Tape}
use Rattle.tape.specs.Model.Moves.{no_tape}
use Rattle.table_machine.specs.TableMachine.{Config}
use Rattle.sim.specs.Model.Engine.{Conf, conf}
use Rattle.sim_refines.specs.Meaning.{has, config_of, EngineFits}
use Rattle.rle_stack.specs.Model.{places_of}
use Rattle.rle.specs.Model.Engine as Chain
use Rattle.rle_refines.specs.Meaning.{config_of as chain_config, ChainFits}
use Rattle.store_bytes.specs.Bytes.{get16, get32, get64}
use Rattle.timeline_rule.specs.Model.Kind.{Kind}
use Rattle.sim_slots.specs.Model.Kind.{plain_kind}
use Rattle.rle_slots.specs.Model.Slots.{numbers_in}
use Rattle.rle_slots.specs.Model.Kind.{chain_kind}
use Rattle.demands_second.specs.Space.{ChainFull}
use Rattle.demands_first.specs.FirstSpace.{PlainFull}

-- The configuration that a value holds; whether the value fits; whether its next step is full; the number of bytes of a slot; and the engine that they encode, with
-- as many cells or run places as are lent with the given value.
pub record Meaning (X : Kind) : Type 1 where
  pub config : Machine → X.State → Config
  pub Fits : Machine → X.State → Type 0
  pub NextFull : Machine → (table : List ℕ) → X.State → Type 0
  pub slot_size : Machine → X.State → ℕ
  pub shown : Machine → (slot : List ℕ) → X.State → X.State

-- n bytes from `at` on
abbrev pub bytes_at : (at n : ℕ) → List ℕ → List ℕ
bytes_at at n b = take n (drop at b)

-- ---- the plain engine: the state at byte 0, the steps at 8, the numbers of the tapes at 16, 36 and 56, their cells from 128 on, for each tape as many as its
-- buffer has. A tape that the machine lacks has no cells there, and its five numbers are 0.

-- a tape's five numbers, of 4 bytes each, from p on
abbrev pub tape_shown : (slot : List ℕ) → (p : ℕ) → Tape
tape_shown b p = record { len = get32 b p; origin = get32 b (p + 4); head = get32 b (p + 8); lowest = get32 b (p + 12); highest = get32 b (p + 16) }

module _ (m : Machine) where
  abbrev pub cells1 : Conf → ℕ
  cells1 σ = pick (has m 1) (length σ.c1) 0

  abbrev pub cells2 : Conf → ℕ
  cells2 σ = pick (has m 2) (length σ.c2) 0

  -- "A slot is 128 bytes more than the cells buffers"
  abbrev pub plain_slot : Conf → ℕ
  plain_slot σ = 128 + length σ.c0 + cells1 σ + cells2 σ

  abbrev pub plain_shown : (slot : List ℕ) → Conf → Conf
  plain_shown b σ =
      conf (record {
        state = state_of (get16 b 0);
        steps = get64 b 8;
        t0 = tape_shown b 16;
        t1 = pick (has m 1) (tape_shown b 36) no_tape;
        t2 = pick (has m 2) (tape_shown b 56) no_tape;
      })
      (bytes_at 128 (length σ.c0) b) (bytes_at (128 + length σ.c0) (cells1 σ) b) (bytes_at (128 + length σ.c0 + cells1 σ) (cells2 σ) b)

abbrev pub plain_meaning : Meaning plain_kind
plain_meaning = record { config = config_of; Fits = EngineFits; NextFull = PlainFull; slot_size = plain_slot; shown = plain_shown }

-- ---- the run-length engine: the state at byte 0, the symbol under the head at 2, seven numbers of 8 bytes from 8 on; from 128 on the symbols of the left side and
-- of the right side, then their lengths, of 8 bytes each; for each side as many as it has places.

abbrev pub lefts : Chain.Conf → ℕ
lefts σ = places_of σ.ls σ.ll

abbrev pub rights : Chain.Conf → ℕ
rights σ = places_of σ.rs σ.rl

-- "or than 9 × the run places"
abbrev pub chain_slot : Machine → Chain.Conf → ℕ
chain_slot m σ = 128 + 9 * (lefts σ + rights σ)

abbrev pub chain_shown : Machine → (slot : List ℕ) → Chain.Conf → Chain.Conf
chain_shown m b σ =
    Chain.conf (record {
      state = state_of (get16 b 0);
      steps = get64 b 8;
      macros = get64 b 16;
      tape = record { left = get64 b 24; cur = get_or b 2 0; right = get64 b 32; head = get64 b 40 };
      lowest = get64 b 48;
      highest = get64 b 56;
    })
    (bytes_at 128 (lefts σ) b) (numbers_in (bytes_at (128 + lefts σ + rights σ) (8 * lefts σ) b))
    (bytes_at (128 + lefts σ) (rights σ) b) (numbers_in (bytes_at (128 + 9 * lefts σ + rights σ) (8 * rights σ) b))

abbrev pub chain_meaning : Meaning chain_kind
chain_meaning = record { config = λ m σ. chain_config σ; Fits = ChainFits; NextFull = ChainFull; slot_size = chain_slot; shown = chain_shown }
