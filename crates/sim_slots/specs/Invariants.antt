-- What the functions of this crate return to one another, and what they may assume. Definitions only.
use Rattle.outcome.specs.declared.Refusal.{Refusal}
use Rattle.std.specs.Prelude.{◌≡◌, Bool, true, List, ℕ, ◌+◌, ◌≤◌, length, Err, None, Ok, Option, Result, Some}
use Rattle.notation.specs.Limits.{cells_most}
use Rattle.outcome.specs.declared.Outcome.{Outcome}
use Rattle.outcome.specs.declared.Outcome.TheVariants.{OutOfFuel}
use Rattle.machine.specs.declared.Machine.{Machine}
use Rattle.tape.specs.declared.Tape.{Tape}
use Rattle.tape.specs.Model.Moves.{Held}
use Rattle.sim.specs.declared.Simulator.{Simulator}
use Rattle.sim.specs.Model.Engine.{Conf}
use Rattle.sim.specs.Model.Operations.{sizes_fit, sim_fits}
use Rattle.sim_slots.specs.Model.Slots.{size_of, slot_size, part0, part1, part2}

-- ---- an advance

-- the outcome of a run; a run that passed its check is not refused
abbrev pub outcome_in : Result Outcome Refusal → Outcome
outcome_in (Ok o) = o
outcome_in (Err why) = OutOfFuel 0

-- ---- saving

-- a tape's numbers are small, and the slot has space for its cells after them
pub record PutOk (h : Held) (p at : ℕ) (b : List ℕ) : Type 0 where
  pub head_room : p + 20 ≤ at
  pub cells_room : at + h.tape.len ≤ length b
  pub len_in : h.tape.len ≤ length h.cells
  pub len_small : h.tape.len ≤ cells_most
  pub origin_in : h.tape.origin ≤ h.tape.len
  pub head_in : h.tape.head ≤ h.tape.len
  pub low_in : h.tape.lowest ≤ h.tape.len
  pub high_in : h.tape.highest ≤ h.tape.len

pub record PutIf (has : Bool) (h : Held) (p at : ℕ) (b : List ℕ) : Type 0 where
  pub ok : has ≡ true → PutOk h p at b

-- an engine that passed its check, and a slot of its size
pub record SaveOk (m : Machine) (σ : Conf) (b : List ℕ) : Type 0 where
  pub sizes : sizes_fit m (length σ.c0) (length σ.c1) (length σ.c2) ≡ true
  pub fits : sim_fits m σ.sim σ.c0 σ.c1 σ.c2 ≡ true
  pub long : length b ≡ slot_size m σ

-- ---- restoring

-- n bytes of a slot from `at` on contain a tape's live cells, and the buffer has space for them
pub record FillOk (t : Tape) (at n : ℕ) (b c : List ℕ) : Type 0 where
  pub part_in : at + n ≤ length b
  pub len_part : t.len ≤ n
  pub len_in : t.len ≤ length c

pub record FillIf (has : Bool) (t : Tape) (at n : ℕ) (b c : List ℕ) : Type 0 where
  pub ok : has ≡ true → FillOk t at n b c

-- v fits the parts of the slot, and the slot has the size for the buffers
pub record FilledOk (m : Machine) (v : Simulator) (b c0 c1 c2 : List ℕ) : Type 0 where
  pub fits : sim_fits m v (part0 (length c0) b) (part1 m (length c0) (length c1) b) (part2 m (length c0) (length c1) (length c2) b) ≡ true
  pub long : length b ≡ size_of m (length c0) (length c1) (length c2)

-- the answer of a restore, with the buffers after it
pub record Restored : Type 0 where
  pub found : Option Simulator
  pub c0 : List ℕ
  pub c1 : List ℕ
  pub c2 : List ℕ

abbrev pub restored : Option Simulator → (c0 c1 c2 : List ℕ) → Restored
restored f c0 c1 c2 = record { found = f; c0 = c0; c1 = c1; c2 = c2 }

-- where nothing is found the buffers are unchanged
abbrev pub restored_on : Option Conf → Conf → Restored
restored_on None σ = restored None σ.c0 σ.c1 σ.c2
restored_on (Some v) σ = restored (Some v.sim) v.c0 v.c1 v.c2
