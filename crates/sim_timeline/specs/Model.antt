-- The results of the timeline's operations over the plain engine, in the form of the timeline's rule. Definitions only.
use Rattle.outcome.specs.declared.Refusal.{Refusal}
use Rattle.std.specs.Prelude.{List, ℕ, Err, Ok, Result}
use Rattle.outcome.specs.declared.Outcome.{Outcome}
use Rattle.sim.specs.declared.Simulator.{Simulator}
use Rattle.sim.specs.Model.Engine.{conf}
use Rattle.timeline_rule.specs.declared.Times.{Times}
use Rattle.timeline_rule.specs.Model.Timeline.{Reply, refused, answered}
use Rattle.timeline_rule.specs.Model.Kind.{TimelineOf}
use Rattle.timeline_rule.specs.Invariants.{timeline_of}
use Rattle.sim_slots.specs.Model.Kind.{plain_kind}
use Rattle.timeline_engine.specs.Engine as any
use Rattle.sim_timeline.specs.declared.Timeline.{Timeline}

-- the timeline's value with the engine's cells and the store
abbrev pub with_lent : Timeline → (c0 c1 c2 store : List ℕ) → TimelineOf plain_kind
with_lent v c0 c1 c2 t = timeline_of plain_kind (conf v.engine c0 c1 c2) t v.times

abbrev pub tl : Simulator → Times → Timeline
tl e v = record { engine = e; times = v }

-- an answer, with the timeline handed back
abbrev pub replied : Result Outcome Refusal → TimelineOf plain_kind → Reply Outcome × TimelineOf plain_kind
replied a w = any.replied plain_kind a w

-- the answer of `new`, with the store that it leaves
abbrev pub begun : Result Timeline Refusal → (c0 c1 c2 store : List ℕ) → Reply (TimelineOf plain_kind) × List ℕ
begun (Err why) c0 c1 c2 t = (refused why, t)
begun (Ok v) c0 c1 c2 t = (answered (with_lent v c0 c1 c2 t), t)
