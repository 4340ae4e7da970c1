-- What a timeline's code requires of an engine, and what its answers say, over any kind of engine. Definitions only.
use Rattle.std.specs.Prelude.{◌≡◌, Bool, true, false, List, ℕ, ◌+◌, ◌≤◌, Option, None, Some, Result, Ok, Err, ⊤}
use Rattle.notation.specs.Limits.{steps_most}
use Rattle.outcome.specs.declared.Outcome.{Outcome}
use Rattle.outcome.specs.declared.Refusal.{Refusal}
use Rattle.machine.specs.declared.Machine.{Machine}
use Rattle.timeline_rule.specs.Model.Timeline.{Reply, refused, answered}
use Rattle.timeline_rule.specs.Model.Kind.{Kind, TimelineOf}
use Rattle.timeline_rule.specs.Invariants.{Fits}

-- the answer of a check: a slot's size, or the refusal
abbrev pub sized : ℕ → Result ⊤ Refusal → Result ℕ Refusal
sized n (Ok tt) = Ok n
sized n (Err why) = Err why

module _ (X : Kind) (m : Machine) where
  -- an engine that fits with some table can be saved in a slot of that size
  pub record Saves (size : ℕ) (e : X.State) : Type 0 where
    pub table : List ℕ
    pub fits : Fits X m table size e

  -- an engine that passes its check and whose steps stay within the limit can advance
  pub record Advances (s : List ℕ) (n : ℕ) (e : X.State) : Type 0 where
    pub accepted : X.check m s e ≡ Ok tt
    pub fuel : X.now e + n ≤ steps_most

-- whether an engine was read, and the engine after that: the one before where none was read
abbrev pub read_or : {A : Type 0} → A → Option A → Bool × A
read_or e None = (false, e)
read_or e (Some r) = (true, r)

-- an answer, with the timeline after it
abbrev pub replied : (X : Kind) → Result Outcome Refusal → TimelineOf X → Reply Outcome × TimelineOf X
replied X (Err why) w = (refused why, w)
replied X (Ok o) w = (answered o, w)
