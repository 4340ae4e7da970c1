-- Bursts inside a run: when one may run on an engine's value, where it starts, and what the value after it keeps. Definitions only.
use Rattle.symbol.specs.declared.State.{State}
use Rattle.outcome.specs.declared.Refusal.{Refusal}
use Rattle.std.specs.Prelude.{◌≡◌, Bool, true, false, List, ℕ, ◌+◌, ◌*◌, ◌≤◌, ◌<◌, length, Ok, Option, Result, ⊤}
use Rattle.notation.specs.Limits.{steps_most}
use Rattle.symbol.specs.Kinds.{state_of}
use Rattle.machine.specs.declared.Machine.{Machine}
use Rattle.tape.specs.Fits.{TapeSafe}
use Rattle.sim_burst.specs.declared.inner.step.BurstState.{BurstState}
use Rattle.sim_burst_wide.specs.declared.inner.WideBurstState.{WideBurstState}
use Rattle.sim.specs.declared.Simulator.{Simulator}
use Rattle.sim.specs.Model.Engine.{task, Conf, conf, matches, run_of}
use Rattle.sim.specs.Model.Operations.{run_check}
use Rattle.sim.specs.Model.Turns.{RunOk}

-- the rule matches no state but stop
pub record Misses (rule : Option State) (stop : ℕ) : Type 0 where
  pub misses : (q : ℕ) → (q ≡ stop → ⊥) → matches rule (state_of q) ≡ false

-- where the check passes, the run's check passes too
pub record Cleared (checked : Result ⊤ Refusal) (m : Machine) (s : List ℕ) (fuel : ℕ) (σ : Conf) : Type 0 where
  pub runs : checked ≡ Ok tt → run_check m s fuel σ ≡ Ok tt

-- one tape, and at most 256 entries, so that their words fit in a local array
pub record Small (m : Machine) : Type 0 where
  pub one_tape_holds : m.tapes ≡ 1
  pub count_in : m.states * m.symbols ≤ 256

-- ---- one tape

-- the start of a burst, from the engine's value
abbrev pub burst_start : Simulator → (left : ℕ) → BurstState
burst_start v left =
    record {
      head = v.t0.head;
      low = v.t0.lowest;
      high = v.t0.highest;
      state = v.state.0;
      left = left;
    }

-- the engine v with the burst's numbers in it
abbrev pub into : Simulator → (steps : ℕ) → BurstState → Simulator
into v steps x =
    record {
      state = state_of x.state;
      steps = steps;
      t0 = record { len = v.t0.len; origin = v.t0.origin; head = x.head; lowest = x.low; highest = x.high };
      t1 = v.t1;
      t2 = v.t2;
    }

-- a burst may run: the machine has one tape, the tape's numbers lie inside it, and no other tape has a cell under its head
pub record BurstAllowed (tapes : ℕ) (v : Simulator) : Type 0 where
  pub one_tape_holds : tapes ≡ 1
  pub low_in : v.t0.lowest ≤ v.t0.head
  pub high_in : v.t0.head ≤ v.t0.highest
  pub high_len : v.t0.highest < v.t0.len
  pub none1 : v.t1.len ≤ v.t1.head
  pub none2 : v.t2.len ≤ v.t2.head

pub record BurstAllowedIf (b : Bool) (tapes : ℕ) (v : Simulator) : Type 0 where
  pub burst_allowed : b ≡ true → BurstAllowed tapes v

-- the part of a run's assumptions that a burst on one tape needs
pub record OneTapeOk (m : Machine) (v : Simulator) (c : List ℕ) (left : ℕ) : Type 0 where
  pub symbols_in : m.symbols ≤ 256
  pub safe0 : TapeSafe v.t0 c
  pub steps_in : v.steps + left ≤ steps_most

-- the run from v' with cells c' has the answer of the run from v with cells c, for every rule that matches no state but stop and
-- for all contents of the other buffers
pub record SameRunOne (m : Machine) (s : List ℕ) (proves : Bool) (stop : ℕ) (v : Simulator) (c : List ℕ) (left : ℕ) (v' : Simulator) (c' : List ℕ) (left' : ℕ) : Type 0 where
  pub same : (rule : Option State) → Misses rule stop → (c1 c2 : List ℕ)
      → run_of (task m s proves rule) left' (conf v' c' c1 c2) ≡ run_of (task m s proves rule) left (conf v c c1 c2)
  pub okay : (stride : ℕ) (c1 c2 : List ℕ) → RunOk m stride v c c1 c2 left → RunOk m stride v' c' c1 c2 left'
  pub less : left' ≤ left
  pub lens : length c' ≡ length c

-- ---- several tapes

-- the start of a burst, from the engine's value
abbrev pub wide_burst_start : Simulator → (left : ℕ) → WideBurstState
wide_burst_start v left =
    record {
      t0 = v.t0;
      t1 = v.t1;
      t2 = v.t2;
      state = v.state.0;
      left = left;
    }

-- the engine with the burst's numbers
abbrev pub into_wide : (steps : ℕ) → WideBurstState → Simulator
into_wide steps x =
    record {
      state = state_of x.state;
      steps = steps;
      t0 = x.t0;
      t1 = x.t1;
      t2 = x.t2;
    }

-- the run from v' has the answer of the run from v, for every rule that matches no state but stop
pub record SameRun (m : Machine) (s : List ℕ) (proves : Bool) (stop : ℕ) (v : Simulator) (c0 c1 c2 : List ℕ) (left : ℕ)
    (v' : Simulator) (d0 d1 d2 : List ℕ) (left' : ℕ) : Type 0 where
  pub same : (rule : Option State) → Misses rule stop
      → run_of (task m s proves rule) left' (conf v' d0 d1 d2) ≡ run_of (task m s proves rule) left (conf v c0 c1 c2)
  pub okay : (stride : ℕ) → RunOk m stride v c0 c1 c2 left → RunOk m stride v' d0 d1 d2 left'
  pub less : left' ≤ left
  pub lens0 : length d0 ≡ length c0
  pub lens1 : length d1 ≡ length c1
  pub lens2 : length d2 ≡ length c2
