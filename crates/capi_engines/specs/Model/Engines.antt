-- Engines as numbers, and a timeline's own numbers, as they cross the C boundary. Definitions only.
use Rattle.symbol.specs.declared.State.{State}
use Rattle.std.specs.Prelude.{List, ℕ, ◌+◌, ltb, get_or, set, None, Option, Some}
use Rattle.notation.specs.Choice.{pick}
use Rattle.symbol.specs.Kinds.{state_of}
use Rattle.machine.specs.declared.Machine.{Machine}
use Rattle.tape.specs.declared.Tape.{Tape}
use Rattle.sim.specs.declared.Simulator.{Simulator}
use Rattle.rle.specs.declared.ChainSim.{ChainSim}
use Rattle.timeline_rule.specs.declared.Times.{Times}

abbrev pub machine_of : (tapes symbols states start : ℕ) → Machine
machine_of t k n q = record { tapes = t; symbols = k; states = n; start = q }

-- ---- an engine: its state, and sixteen numbers: steps, then len, origin, head, lowest, highest of each tape

abbrev pub tape_from : List ℕ → ℕ → Tape
tape_from xs i = record {
  len = get_or xs i 0;
  origin = get_or xs (i + 1) 0;
  head = get_or xs (i + 2) 0;
  lowest = get_or xs (i + 3) 0;
  highest = get_or xs (i + 4) 0;
}

unfoldable pub engine_of : (state : ℕ) → List ℕ → Simulator
engine_of q xs = record { state = state_of q; steps = get_or xs 0 0; t0 = tape_from xs 1; t1 = tape_from xs 6; t2 = tape_from xs 11 }

-- the numbers of a tape, from place i on
unfoldable pub with_tape : List ℕ → ℕ → Tape → List ℕ
with_tape xs i t = set (set (set (set (set xs i t.len) (i + 1) t.origin) (i + 2) t.head) (i + 3) t.lowest) (i + 4) t.highest

unfoldable pub with_engine : List ℕ → Simulator → List ℕ
with_engine xs v = with_tape (with_tape (with_tape (set xs 0 v.steps) 1 v.t0) 6 v.t1) 11 v.t2

-- a number below 65536 is a `from` state; from 65536 on there is no rule
abbrev pub rule_of : ℕ → Option State
rule_of n = pick (ltb n 65536) (Some (state_of n)) None

-- ---- a run-length engine: its state, the symbol under the head, and seven numbers: steps, macro steps, runs on the left, runs on the right, head, lowest, highest

unfoldable pub chain_of : (state cur : ℕ) → List ℕ → ChainSim
chain_of q c xs = record {
  state = state_of q;
  steps = get_or xs 0 0;
  macros = get_or xs 1 0;
  tape = record { left = get_or xs 2 0; cur = c; right = get_or xs 3 0; head = get_or xs 4 0 };
  lowest = get_or xs 5 0;
  highest = get_or xs 6 0;
}

unfoldable pub with_chain : List ℕ → ChainSim → List ℕ
with_chain xs v =
    set (set (set (set (set (set (set xs 0 v.steps) 1 v.macros) 2 v.tape.left) 3 v.tape.right) 4 v.tape.head) 5 v.lowest) 6 v.highest

-- ---- a timeline's own four numbers: the most slots kept, the starting step, slots recorded, the interval

unfoldable pub times_from : List ℕ → Times
times_from xs = record { most = get_or xs 0 0; first = get_or xs 1 0; count = get_or xs 2 0; every = get_or xs 3 0 }

unfoldable pub with_times : List ℕ → Times → List ℕ
with_times xs v = set (set (set (set xs 0 v.most) 1 v.first) 2 v.count) 3 v.every
