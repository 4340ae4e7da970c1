-- "Bytes of the lent buffer past the length are never read; those past a call's final length stay." (document 01, tape.rs) Definitions only.
use Rattle.std.specs.Prelude.{◌≡◌, List, ℕ, ◌≤◌, ◌<◌, length, get_or}
use Rattle.machine.specs.declared.Machine.{Machine}
use Rattle.tape.specs.Model.Moves.{Held}
use Rattle.sim.specs.Model.Engine.{Conf, tape0, tape1, tape2}
use Rattle.sim.specs.Model.Operations.{Given, StepGiven}

-- ---- "those past a call's final length stay"

-- past the tape's length after a call, the buffer holds what it held `before` the call
abbrev pub PastStays : (before : List ℕ) → Held → Type 0
PastStays before h = (i : ℕ) → h.tape.len ≤ i → get_or h.cells i 0 ≡ get_or before i 0

-- the same for an engine whose buffers held c0, c1 and c2 before the call
pub record PastKept (c0 c1 c2 : List ℕ) (τ : Conf) : Type 0 where
  pub past0 : PastStays c0 (tape0 τ)
  pub past1 : PastStays c1 (tape1 τ)
  pub past2 : PastStays c2 (tape2 τ)

-- ---- "Bytes of the lent buffer past the length are never read"

-- the first n cells of two buffers are the same
abbrev pub SameFirst : ℕ → (c d : List ℕ) → Type 0
SameFirst n c d = (i : ℕ) → i < n → get_or c i 0 ≡ get_or d i 0

-- two engines with the same value and buffers of the same lengths; on each tape that the machine has, the cells up to its length are the same
pub record SameLive (m : Machine) (σ τ : Conf) : Type 0 where
  pub value : σ.sim ≡ τ.sim
  pub length0 : length σ.c0 ≡ length τ.c0
  pub length1 : length σ.c1 ≡ length τ.c1
  pub length2 : length σ.c2 ≡ length τ.c2
  pub cells0 : SameFirst τ.sim.t0.len σ.c0 τ.c0
  pub cells1 : 1 < m.tapes → SameFirst τ.sim.t1.len σ.c1 τ.c1
  pub cells2 : 2 < m.tapes → SameFirst τ.sim.t2.len σ.c2 τ.c2

-- two runs, or two steps, have the same answer, and leave two such engines again
pub record SameGiven (m : Machine) (x y : Given) : Type 0 where
  pub answer : x.answer ≡ y.answer
  pub at : SameLive m x.at y.at

pub record SameStepGiven (m : Machine) (x y : StepGiven) : Type 0 where
  pub answer : x.answer ≡ y.answer
  pub at : SameLive m x.at y.at
