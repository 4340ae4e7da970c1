-- A TIMELINE THAT NOTES WHAT IT SAVES: the same timeline, with a note for each slot: the engine that was saved there. A note moves with its slot;
-- no operation reads it. The notes define "the engine saved". Definitions only.
use Rattle.std.specs.Prelude.{ℕ, List, [], ◌∷◌, eqb, None, Option, Some}
use Rattle.notation.specs.Choice.{pick}
use Rattle.outcome.specs.declared.Outcome.{Outcome}
use Rattle.machine.specs.declared.Machine.{Machine}
use Rattle.timeline_rule.specs.Model.Engine.{Ops}
use Rattle.timeline_rule.specs.declared.Call.{Call}
use Rattle.timeline_rule.specs.Model.Timeline.{TimelineWith, Reply, call}
use Rattle.timeline_rule.specs.Model.Kind.{Kind, TimelineOf, ops_for}

-- a store with a note for each slot
pub record Noted (Store State : Type 0) : Type 0 where
  pub bytes : Store
  pub note : ℕ → Option State

-- the notes, with x for slot i
abbrev pub note_at : {A : Type 0} → ℕ → Option A → (ℕ → Option A) → (ℕ → Option A)
note_at i x f = λ j. pick (eqb j i) x (f j)

-- the operations of an engine, with notes in its store: saving an engine notes it, moving a slot moves its note
abbrev pub noting : {Out : Type 0} → Ops Out → Ops Out
noting O = record {
  State = O.State;
  Store = Noted O.Store O.State;
  now = O.now;
  check = O.check;
  advance = O.advance;
  slots = λ t. O.slots t.bytes;
  save = λ i s t. record { bytes = O.save i s t.bytes; note = note_at i (Some s) t.note };
  move = λ i k t. record { bytes = O.move i k t.bytes; note = note_at k (t.note i) t.note };
  restore = λ i p s t. O.restore i p s t.bytes;
}

-- the timeline without the notes
abbrev pub bare : {State Store : Type 0} → TimelineWith State (Noted Store State) → TimelineWith State Store
bare w = record { engine = w.engine; store = w.store.bytes; times = w.times }

-- ---- over a kind of engine

abbrev pub NotedOf : Kind → Type 0
NotedOf K = TimelineWith K.State (Noted (List ℕ) K.State)

-- "A new timeline saves slot 0 at its starting step."
abbrev pub new_noted : (K : Kind) → TimelineOf K → NotedOf K
new_noted K v = record { engine = v.engine; store = record { bytes = v.store; note = note_at 0 (Some v.engine) (λ j. None) }; times = v.times }

abbrev pub call_noted : (K : Kind) → Machine → (table : List ℕ) → NotedOf K → Call → Reply Outcome × NotedOf K
call_noted K m s w c = call (noting (ops_for K m s w.engine)) w c

abbrev pub after_noted : (K : Kind) → Machine → (table : List ℕ) → NotedOf K → List Call → NotedOf K
after_noted K m s w [] = w
after_noted K m s w (c ∷ cs) = after_noted K m s (call_noted K m s w c).1 cs
