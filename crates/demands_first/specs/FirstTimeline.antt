-- The tests of a timeline over any kind of engine, in document 01's order, and the first demand's claims about it. Definitions only.
use Rattle.outcome.specs.declared.Refusal.{Refusal}
use Rattle.std.specs.Prelude.{◌≡◌, ◌↔◌, Bool, true, false, List, [], ◌∷◌, ◌++◌, ℕ, ◌+◌, ◌-◌, ◌*◌, ◌/◌, ◌<◌, min, max, ◌^◌, ltb, leb, Err, None, Ok, Option, Result, Some, ⊤}
use Rattle.notation.specs.Choice.{pick, both}
use Rattle.outcome.specs.declared.Outcome.{Outcome}
use Rattle.outcome.specs.declared.Outcome.TheVariants.{Full}
use Rattle.outcome.specs.declared.Refusal.TheVariants as Why
use Rattle.machine.specs.declared.Machine.{Machine}
use Rattle.table_laws.specs.WellFormed.{Bytes}
use Rattle.table_machine.specs.Tables.{table_of}
use Rattle.sim.specs.Model.Engine.{Conf}
use Rattle.store_bytes.specs.Model.{slot_count, slot_of}
use Rattle.timeline_rule.specs.declared.Times.{Times}
use Rattle.timeline_rule.specs.declared.Call.{Call}
use Rattle.timeline_rule.specs.Model.Timeline.{Reply, refused, answered, target, slot_for, slot_step}
use Rattle.timeline_rule.specs.Model.Kind.{Kind, TimelineOf, call_on, new_with}
use Rattle.demands_first.specs.FirstClaims.{Test, or, TurnsAway}
use Rattle.demands_first.specs.FirstTests.{table_tests, between, plain_sizes, plain_fits}
use Rattle.demands_first.specs.FirstSpace.{StopsFull}
use Rattle.demands_first.specs.FirstSlots.{Meaning, bytes_at}

-- ---- the refusal in an answer

abbrev pub of_reply : {A : Type 0} → Reply A → Result ⊤ Refusal
of_reply (answered a) = Ok tt
of_reply (refused why) = Err why

-- a slot that holds an engine
abbrev pub is_there : {A : Type 0} → Option A → Bool
is_there None = false
is_there (Some a) = true

-- "16 the slot to restore holds no fitting engine of its step": tested where the call goes back; `slot_fits` below states the test by the slot's bytes
abbrev pub slot_holds : (X : Kind) → Machine → TimelineOf X → (target : ℕ) → Bool
slot_holds X m w t =
    pick (ltb t (X.now w.engine))
    (is_there (X.unpack m (slot_of (X.slot_size m w.engine) (slot_for t w.times) w.store) (slot_step t w.times) w.engine))
    true

-- ---- the plain engine's tests in every call: the table check, 11, 12; the run-length engine's are those of its questions (chain_ask_tests)

abbrev pub plain_engine_tests : Machine → List ℕ → Conf → List Test
plain_engine_tests m s σ = table_tests m s ++ plain_sizes m s σ ∷ plain_fits m s σ ∷ []

-- ---- refusal 14

-- "m not 1 to 512, first interval not 1 to 2^32"
abbrev pub new_settings : (most every : ℕ) → Bool
new_settings most every = both (between 1 most 512) (between 1 every (2 ^ 32))

-- "or a later value with interval not 1 to 2^63, count not 1 to m, or steps outside start to start + count × interval"
abbrev pub later_settings : Times → (steps : ℕ) → Bool
later_settings t steps =
    both (between 1 t.most 512)
    (both (between 1 t.every (2 ^ 63))
    (both (between 1 t.count t.most) (between t.first steps (t.first + t.count * t.every))))

-- ---- a timeline over a kind of engine: "8, 11, 12; 14 ..; 15 ..; 13 ..; 16 .."

module _ (X : Kind) (engine_tests : Machine → (table : List ℕ) → X.State → List Test) (m : Machine) (s : List ℕ) where
  -- "14 m not 1 to 512, first interval not 1 to 2^32 ..; 15 a store under m + 1 slots"
  abbrev pub timeline_new_tests : (most every : ℕ) → X.State → (store : List ℕ) → List Test
  timeline_new_tests most every e store =
      engine_tests m s e
      ++ or (new_settings most every) Why.Settings
      ∷ or (ltb most (slot_count (X.slot_size m e) store)) Why.StoreSize
      ∷ []

  -- "14 .. a later value with interval not 1 to 2^63, count not 1 to m, or steps outside start to start + count × interval; 15 a store under m + 1 slots;
  -- 13 target over 2^62; 16 .." "A target below the start counts as the start."
  abbrev pub timeline_call_tests : TimelineOf X → Call → List Test
  timeline_call_tests w c =
      engine_tests m s w.engine
      ++ or (later_settings w.times (X.now w.engine)) Why.Settings
      ∷ or (ltb w.times.most (slot_count (X.slot_size m w.engine) w.store)) Why.StoreSize
      ∷ or (leb (target (X.now w.engine) c) (2 ^ 62)) Why.StepLimit
      ∷ or (slot_holds X m w (max (target (X.now w.engine) c) w.times.first)) Why.Slot
      ∷ []

-- ---- the target of a call, and the slot that it restores

-- "A target below the start counts as the start."
abbrev pub aim_of : (X : Kind) → TimelineOf X → Call → ℕ
aim_of X w c = max (target (X.now w.engine) c) w.times.first

-- "Going back restores slot (target - start) / interval, the last at most."
abbrev pub slot_number : (target : ℕ) → Times → ℕ
slot_number t v = min ((t - v.first) / v.every) (v.count - 1)

module _ (X : Kind) (M : Meaning X) (m : Machine) (w : TimelineOf X) (t : ℕ) where
  -- slot i is part i of the store, counted from 0
  abbrev pub slot_bytes : List ℕ
  slot_bytes = bytes_at (slot_number t w.times * M.slot_size m w.engine) (M.slot_size m w.engine) w.store

  -- the engine that its bytes encode
  abbrev pub slot_engine : X.State
  slot_engine = M.shown m slot_bytes w.engine

  -- it is "a fitting engine of its step"; the step of slot i is start + i × interval
  pub record SlotFits : Type 0 where
    pub of_its_step : X.now slot_engine ≡ w.times.first + slot_number t w.times * w.times.every
    pub fits : M.Fits m slot_engine

  -- the engine from which a call to t goes on: its own, or the slot's where the call goes back
  abbrev pub went_from : X.State
  went_from = pick (ltb t (X.now w.engine)) slot_engine w.engine

-- THE FIRST DEMAND for a timeline over a kind of engine whose own refusals have these numbers
pub record TimelineOperations (X : Kind) (M : Meaning X) (numbers : List ℕ) (engine_tests : Machine → (table : List ℕ) → X.State → List Test) : Type 0 where
  -- "A refusal carries its number from document 01 and changes no state, tape, run stack or store." A new timeline: the answer, with the store
  pub new : (m : Machine) (s : List ℕ) (most every : ℕ) (e : X.State) (store : List ℕ)
      → TurnsAway (numbers ++ 14 ∷ 15 ∷ []) (timeline_new_tests X engine_tests m s most every e store) (λ (x : Reply (TimelineOf X) × List ℕ). of_reply x.0) (λ why. (refused why, store))
      (new_with X m s most every e store)
  -- seek, forward and back: the answer, with the engine and its buffers, the store, and the timeline's value
  pub call : (m : Machine) (s : List ℕ) (w : TimelineOf X) (c : Call)
      → TurnsAway (numbers ++ 14 ∷ 15 ∷ 13 ∷ 16 ∷ []) (timeline_call_tests X engine_tests m s w c) (λ (x : Reply Outcome × TimelineOf X). of_reply x.0) (λ why. (refused why, w))
      (call_on X m s w c)
  -- "16 the slot to restore holds no fitting engine of its step": the test slot_holds for a call to t; a call that does not go back passes it
  pub slot_fits : (m : Machine) (w : TimelineOf X) (t : ℕ) → (slot_holds X m w t ≡ true) ↔ (t < X.now w.engine → SlotFits X M m w t)
  -- "Lack of space stops a run before the step that needs it, earlier steps kept.": every step from the engine `went_from` on was made, and the next step is full.
  -- "Each advance runs without the never test", so a full step can be part of a proved loop.
  pub full : (m : Machine) (s : List ℕ) → Bytes s → (w w' : TimelineOf X) (c : Call) (n : ℕ) → call_on X m s w c ≡ (answered (Full n), w')
      → StopsFull (table_of m s) (M.config m (went_from X M m w (aim_of X w c))) (M.config m w'.engine) (aim_of X w c) n (M.NextFull m s w'.engine)
