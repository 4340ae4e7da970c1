-- A kind of engine: the models of its operations, with slots of bytes; and the definitions that the contracts of a timeline over it cite. Definitions only.
use Rattle.outcome.specs.declared.Refusal.{Refusal}
use Rattle.std.specs.Prelude.{ℕ, Bool, true, false, List, eqb, Option, Result, ⊤}
use Rattle.outcome.specs.declared.Outcome.{Outcome}
use Rattle.outcome.specs.Numbers.{outcome_number}
use Rattle.machine.specs.declared.Machine.{Machine}
use Rattle.store_bytes.specs.Model.{slot_count, slot_of, put_slot, move_slot}
use Rattle.timeline_rule.specs.Model.Engine.{Ops}
use Rattle.timeline_rule.specs.declared.Call.{Call}
use Rattle.timeline_rule.specs.Model.Timeline.{Reply, refused, answered, TimelineWith, call, new}

-- whether a run is out of fuel, by its outcome's number
abbrev pub spent : Outcome → Bool
spent o = eqb (outcome_number o) 1

-- the outcome of an advance: that of its run, or the never test's verdict where the run is out of fuel
abbrev pub verdict_if : (spent : Bool) → (ran verdict : Outcome) → Outcome
verdict_if true o v = v
verdict_if false o v = o

abbrev pub verdict_or : (ran verdict : Outcome) → Outcome
verdict_or o v = verdict_if (spent o) o v

pub record Kind : Type 1 where
  -- an engine's value with its lent buffers; the buffers lent to a fresh engine
  pub State : Type 0
  pub Lent : Type 0
  -- a fresh engine, on a machine, its table and a word
  pub create : Machine → (table word : List ℕ) → Lent → Reply State
  -- the step count
  pub now : State → ℕ
  -- the table check, then refusals 8, 11 and 12
  pub check : Machine → (table : List ℕ) → State → Result ⊤ Refusal
  -- "Each advance runs without the never test, then tests it with fuel 0."
  pub advance : Machine → (table : List ℕ) → ℕ → State → Outcome × State
  -- "A slot is 128 bytes more than the cells buffers, or than 9 × the run places."
  pub slot_size : Machine → State → ℕ
  -- the bytes of a slot in which an engine is saved, given the slot's old bytes
  pub pack : Machine → State → List ℕ → List ℕ
  -- reads a slot's bytes, which must hold a fitting engine of the given step, into the buffers of an engine
  pub unpack : Machine → List ℕ → ℕ → State → Option State

-- the operations that a timeline uses, with slots of `size` bytes
abbrev pub ops_of : (X : Kind) → Machine → (table : List ℕ) → (size : ℕ) → Ops Outcome
ops_of X m s size = record {
  State = X.State;
  Store = List ℕ;
  now = X.now;
  check = X.check m s;
  advance = X.advance m s;
  slots = slot_count size;
  save = λ i e b. put_slot size i (X.pack m e (slot_of size i b)) b;
  move = move_slot size;
  restore = λ i p e b. X.unpack m (slot_of size i b) p e;
}

-- ---- new timeline, seek, forward and back: the lent buffers determine the slot's size

abbrev pub TimelineOf : Kind → Type 0
TimelineOf X = TimelineWith X.State (List ℕ)

abbrev pub ops_for : (X : Kind) → Machine → (table : List ℕ) → X.State → Ops Outcome
ops_for X m s e = ops_of X m s (X.slot_size m e)

unfoldable pub new_on : (X : Kind) → Machine → (table : List ℕ) → (most every : ℕ) → X.State → List ℕ → Reply (TimelineOf X)
new_on X m s most every e store = new (ops_for X m s e) most every e store

-- the store after `new_on`
abbrev pub store_after : (X : Kind) → Reply (TimelineOf X) → List ℕ → List ℕ
store_after X (refused why) t = t
store_after X (answered w) t = w.store

unfoldable pub new_with : (X : Kind) → Machine → (table : List ℕ) → (most every : ℕ) → X.State → List ℕ → Reply (TimelineOf X) × List ℕ
new_with X m s most every e store = (new_on X m s most every e store, store_after X (new_on X m s most every e store) store)

unfoldable pub call_on : (X : Kind) → Machine → (table : List ℕ) → TimelineOf X → Call → Reply Outcome × TimelineOf X
call_on X m s v c = call (ops_for X m s v.engine) v c
