-- The requirements of a timeline's code on its engine and its own numbers, and the results of the parts of a call. Definitions only.
use Rattle.std.specs.Prelude.{◌≡◌, Bool, false, List, ℕ, ◌+◌, ◌-◌, ◌≤◌, ◌<◌, Ok, Option, Some}
use Rattle.notation.specs.Choice.{pick}
use Rattle.notation.specs.Limits.{steps_most}
use Rattle.outcome.specs.declared.Outcome.{Outcome}
use Rattle.machine.specs.declared.Machine.{Machine}
use Rattle.store_bytes.specs.Model.{slot_count}
use Rattle.timeline_rule.specs.declared.Times.{Times}
use Rattle.timeline_rule.specs.Model.Timeline.{slot_for, slot_step, advance_to, gas_for}
use Rattle.timeline_rule.specs.Model.Due.{TimesFit, stop_for}
use Rattle.timeline_rule.specs.Model.Kind.{Kind, TimelineOf, ops_of}

-- a timeline from the parts that the code has: an engine with its buffers, the store, and the timeline's value
abbrev pub timeline_of : (X : Kind) → X.State → List ℕ → Times → TimelineOf X
timeline_of X e t v = record { engine = e; store = t; times = v }

-- ---- the engine: the requirements of the code, with slots of `size` bytes

pub record Sound (X : Kind) (m : Machine) (s : List ℕ) (size : ℕ) (Fits : X.State → Type 0) : Type 0 where
  -- an accepted engine whose buffers give slots of that size fits
  pub accepted : (e : X.State) → X.check m s e ≡ Ok tt → X.slot_size m e ≡ size → Fits e
  pub low : (e : X.State) → Fits e → X.now e ≤ steps_most
  -- an advance keeps the engine fitting and does not go back
  pub advance_fits : (n : ℕ) (e : X.State) → Fits e → X.now e + n ≤ steps_most → Fits (X.advance m s n e).1
  pub advance_climbs : (n : ℕ) (e : X.State) → Fits e → X.now e + n ≤ steps_most → X.now e ≤ X.now (X.advance m s n e).1
  -- an engine restored into the buffers of a fitting one fits, and its step count is p
  pub restored_fits : (b : List ℕ) (p : ℕ) (e r : X.State) → Fits e → p ≤ steps_most → Some r ≡ X.unpack m b p e → Fits r
  pub restored_now : (b : List ℕ) (p : ℕ) (e r : X.State) → Fits e → p ≤ steps_most → Some r ≡ X.unpack m b p e → X.now r ≡ p

-- an engine that passes its check, whose buffers give slots of that size
pub record Fits (X : Kind) (m : Machine) (s : List ℕ) (size : ℕ) (e : X.State) : Type 0 where
  pub accepted : X.check m s e ≡ Ok tt
  pub sized : X.slot_size m e ≡ size

-- ---- the timeline's numbers; its slots can hold any bytes

pub record Shape (v : Times) : Type 0 where
  pub most_in : v.most ≤ 512
  pub first_in : v.first ≤ steps_most
  pub count_low : 1 ≤ v.count
  pub count_in : v.count ≤ v.most
  pub every_in : 1 ≤ v.every

module _ (X : Kind) (size : ℕ) (Fits : X.State → Type 0) where
  -- the requirements of recording
  pub record RecOk (w : TimelineOf X) : Type 0 where
    pub fits : Fits w.engine
    pub shape : Shape w.times
    pub room : w.times.most < slot_count size w.store

  -- the requirements of the loop
  pub record LoopOk (t : ℕ) (w : TimelineOf X) : Type 0 where
    pub rec : RecOk w
    pub below : X.now w.engine ≤ t
    pub top : t ≤ steps_most

  -- the requirements of an accepted call, whose target is at least the start
  pub record GoOk (t : ℕ) (w : TimelineOf X) : Type 0 where
    pub rec : RecOk w
    pub start : w.times.first ≤ t
    pub top : t ≤ steps_most

  -- the requirements of one advance
  pub record StrideOk (t : ℕ) (v : Times) (e : X.State) : Type 0 where
    pub fits : Fits e
    pub numbers : TimesFit v
    pub below : X.now e ≤ t
    pub top : t ≤ steps_most

module _ (X : Kind) (m : Machine) (s : List ℕ) where
  -- one advance, to the target or to the step of the next slot
  abbrev pub stride_of : (target : ℕ) → Times → X.State → Outcome × X.State
  stride_of t v e = X.advance m s (stop_for t v (X.now e) - X.now e) e

  -- the engine restored from the slot to go back to
  unfoldable pub rewind_of : (size target : ℕ) → TimelineOf X → Option X.State
  rewind_of size t w = (ops_of X m s size).restore (slot_for t w.times) (slot_step t w.times) w.engine w.store

  -- the result of the loop that goes on to the target
  unfoldable pub way_of : (size target : ℕ) → TimelineOf X → Outcome × TimelineOf X
  way_of size t w = advance_to (ops_of X m s size) (gas_for (ops_of X m s size) t w) t w

module _ (X : Kind) (m : Machine) (s : List ℕ) (size : ℕ) (Fits : X.State → Type 0) where
  -- One turn of the loop leads from w to w₁: the result from w is the result from w₁, or the loop ends at w₁ with the outcome o.
  pub record TurnSays (t : ℕ) (w : TimelineOf X) (o : Outcome) (done : Bool) (w₁ : TimelineOf X) : Type 0 where
    pub same : way_of X m s size t w ≡ pick done (o, w₁) (way_of X m s size t w₁)
    pub next : done ≡ false → LoopOk X size Fits t w₁
    pub climbs : done ≡ false → X.now w.engine < X.now w₁.engine

  -- the loop's invariant: the loop that began at w₀ is at w
  pub record LoopInv (t : ℕ) (w₀ w : TimelineOf X) : Type 0 where
    pub same : way_of X m s size t w ≡ way_of X m s size t w₀
    pub ok : LoopOk X size Fits t w
