-- A slot of the plain engine, as bytes: "A slot is 128 bytes more than the cells buffers." Definitions only.
use Rattle.std.specs.Prelude.{Bool, List, ℕ, ◌+◌, eqb, length, take, drop, None, Option, Some}
use Rattle.std.proofs.Math.Seq.{paste}
use Rattle.notation.specs.Choice.{pick, both}
use Rattle.symbol.specs.Kinds.{state_of}
use Rattle.machine.specs.declared.Machine.{Machine}
use Rattle.tape.specs.declared.Tape.{Tape}
use Rattle.tape.specs.Model.Moves.{Held}
use Rattle.store_bytes.specs.Bytes.{get16, get32, get64, put16, put32, put64}
use Rattle.sim.specs.declared.Simulator.{Simulator}
use Rattle.sim.specs.Model.Engine.{Conf, conf, tape0, tape1, tape2}
use Rattle.sim.specs.Model.Operations.{has1, has2, sim_fits}

-- ---- the layout: the state at byte 0, the steps at 8, the numbers of the tapes at 16, 36 and 56, their cells from 128 on;
-- a tape that the machine lacks has no cells there, and is neither read nor written

abbrev pub size_if : (has : Bool) → (cells : ℕ) → ℕ
size_if has n = pick has n 0

abbrev pub place1 : (n0 : ℕ) → ℕ
place1 n0 = 128 + n0

abbrev pub place2 : Machine → (n0 n1 : ℕ) → ℕ
place2 m n0 n1 = 128 + n0 + size_if (has1 m) n1

abbrev pub size_of : Machine → (n0 n1 n2 : ℕ) → ℕ
size_of m n0 n1 n2 = 128 + n0 + size_if (has1 m) n1 + size_if (has2 m) n2

abbrev pub slot_size : Machine → Conf → ℕ
slot_size m σ = size_of m (length σ.c0) (length σ.c1) (length σ.c2)

-- ---- writing

-- a tape's five numbers, of 4 bytes each, from p on
unfoldable pub put_tape : Tape → (p : ℕ) → List ℕ → List ℕ
put_tape t p b =
    put32 (put32 (put32 (put32 (put32 b p t.len) (p + 4) t.origin) (p + 8) t.head) (p + 12) t.lowest) (p + 16) t.highest

-- a tape's numbers from p on, and the first `len` of its cells from `at` on
unfoldable pub put_held : Held → (p at : ℕ) → List ℕ → List ℕ
put_held h p at b = paste (put_tape h.tape p b) at h.cells h.tape.len

unfoldable pub put_if : (has : Bool) → Held → (p at : ℕ) → List ℕ → List ℕ
put_if has h p at b = pick has (put_held h p at b) b

unfoldable pub put_sim : Simulator → List ℕ → List ℕ
put_sim v b = put64 (put16 b 0 v.state.0) 8 v.steps

-- writes an engine into a slot; all other bytes of the slot are unchanged
unfoldable pub pack_of : Machine → Conf → List ℕ → List ℕ
pack_of m σ b =
    put_if (has2 m) (tape2 σ) 56 (place2 m (length σ.c0) (length σ.c1))
    (put_if (has1 m) (tape1 σ) 36 (place1 (length σ.c0)) (put_held (tape0 σ) 16 128 (put_sim σ.sim b)))

-- ---- reading

unfoldable pub tape_at : List ℕ → (p : ℕ) → Tape
tape_at b p = record {
  len = get32 b p;
  origin = get32 b (p + 4);
  head = get32 b (p + 8);
  lowest = get32 b (p + 12);
  highest = get32 b (p + 16);
}

-- the engine's value in a slot; a tape that the machine lacks has the fields of v
unfoldable pub sim_in : Machine → List ℕ → Simulator → Simulator
sim_in m b v = record {
  state = state_of (get16 b 0);
  steps = get64 b 8;
  t0 = tape_at b 16;
  t1 = pick (has1 m) (tape_at b 36) v.t1;
  t2 = pick (has2 m) (tape_at b 56) v.t2;
}

-- n bytes from `at` on, and the parts of a slot with the tapes' cells
abbrev pub part_of : (at n : ℕ) → List ℕ → List ℕ
part_of at n b = take n (drop at b)

abbrev pub part0 : (n0 : ℕ) → List ℕ → List ℕ
part0 n0 b = part_of 128 n0 b

abbrev pub part1 : Machine → (n0 n1 : ℕ) → List ℕ → List ℕ
part1 m n0 n1 b = part_of (place1 n0) (size_if (has1 m) n1) b

abbrev pub part2 : Machine → (n0 n1 n2 : ℕ) → List ℕ → List ℕ
part2 m n0 n1 n2 b = part_of (place2 m n0 n1) (size_if (has2 m) n2) b

-- the negation of "the slot to restore holds no fitting engine of its step"
unfoldable pub holds_one : Machine → List ℕ → (step : ℕ) → Simulator → (n0 n1 n2 : ℕ) → Bool
holds_one m b step v n0 n1 n2 =
    both (eqb v.steps step) (sim_fits m v (part0 n0 b) (part1 m n0 n1 b) (part2 m n0 n1 n2 b))

-- replaces the first `len` cells, where the machine has the tape
unfoldable pub fill_if : (has : Bool) → Tape → (part cells : List ℕ) → List ℕ
fill_if has t part c = pick has (paste c 0 part t.len) c

unfoldable pub filled : Machine → List ℕ → Simulator → (c0 c1 c2 : List ℕ) → Conf
filled m b v c0 c1 c2 =
    conf v (paste c0 0 (part0 (length c0) b) v.t0.len)
    (fill_if (has1 m) v.t1 (part1 m (length c0) (length c1) b) c1)
    (fill_if (has2 m) v.t2 (part2 m (length c0) (length c1) (length c2) b) c2)

abbrev pub taken_if : Bool → Conf → Option Conf
taken_if holds σ = pick holds (Some σ) None

-- the engine in a slot's bytes, read into the buffers of σ, if it is of step `step` and fits
unfoldable pub unpack_of : Machine → List ℕ → (step : ℕ) → Conf → Option Conf
unpack_of m b step σ =
    let v : Simulator = sim_in m b σ.sim in
    taken_if (holds_one m b step v (length σ.c0) (length σ.c1) (length σ.c2)) (filled m b v σ.c0 σ.c1 σ.c2)
