-- The meaning of the plain engine's value: the configuration of the table machine that it holds, and when it fits. Definitions only.
use Rattle.std.specs.Prelude.{◌≡◌, Bool, true, false, ℕ, ◌≤◌, ◌<◌, ◌^◌, ltb}
use Rattle.notation.specs.Position.{◌⊖◌}
use Rattle.machine.specs.declared.Machine.{Machine}
use Rattle.table_machine.specs.TableMachine.{Tape, Config, blank_tape}
use Rattle.tape.specs.Model.Moves.{Held, no_tape}
use Rattle.tape.specs.Model.Questions.{cell_of}
use Rattle.tape.specs.Fits.{TapeFits}
use Rattle.sim.specs.Model.Engine.{Conf, tape0, tape1, tape2}

-- ---- "An engine holds a configuration when state, steps and, on each tape, head, lowest, highest and every cell agree,
-- cells outside its tape .. being blank."

-- the position of index i is i − origin
abbrev pub tape_of : Held → Tape
tape_of h = record {
  cell = cell_of h;
  head = h.tape.head ⊖ h.tape.origin;
  low = h.tape.lowest ⊖ h.tape.origin;
  high = h.tape.highest ⊖ h.tape.origin;
}

abbrev pub has : Machine → (tape : ℕ) → Bool
has m i = ltb i m.tapes

-- a tape that the machine lacks is blank and never moves
abbrev pub tape_if : (has : Bool) → Held → Tape
tape_if true h = tape_of h
tape_if false h = blank_tape

abbrev pub config_of : Machine → Conf → Config
config_of m σ = record {
  state = σ.sim.state.0;
  steps = σ.sim.steps;
  tape0 = tape_of (tape0 σ);
  tape1 = tape_if (has m 1) (tape1 σ);
  tape2 = tape_if (has m 2) (tape2 σ);
}

-- ---- "Fits: state below n, steps to 2^62, symbols below k. Plain, each tape: .."

-- a tape that the machine lacks has 0 for its five numbers while the engine runs
abbrev pub FitsIf : (has : Bool) → (symbols : ℕ) → Held → Type 0
FitsIf true k h = TapeFits k h.tape h.cells
FitsIf false k h = h.tape ≡ no_tape

pub record EngineFits (m : Machine) (σ : Conf) : Type 0 where
  pub state_in_holds : σ.sim.state.0 < m.states
  pub steps_in : σ.sim.steps ≤ 2 ^ 62
  pub fits0 : FitsIf true m.symbols (tape0 σ)
  pub fits1 : FitsIf (has m 1) m.symbols (tape1 σ)
  pub fits2 : FitsIf (has m 2) m.symbols (tape2 σ)
