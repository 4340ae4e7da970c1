-- The results of the timeline's operations over the run-length engine, in the form of the timeline's rule. Definitions only.
use Rattle.outcome.specs.declared.Refusal.{Refusal}
use Rattle.std.specs.Prelude.{List, ℕ, Err, Ok, Result}
use Rattle.outcome.specs.declared.Outcome.{Outcome}
use Rattle.rle.specs.declared.ChainSim.{ChainSim}
use Rattle.rle.specs.Model.Engine.{conf}
use Rattle.timeline_rule.specs.declared.Times.{Times}
use Rattle.timeline_rule.specs.Model.Timeline.{Reply, refused, answered}
use Rattle.timeline_rule.specs.Model.Kind.{TimelineOf}
use Rattle.timeline_rule.specs.Invariants.{timeline_of}
use Rattle.rle_slots.specs.Model.Kind.{chain_kind}
use Rattle.timeline_engine.specs.Engine as any
use Rattle.rle_timeline.specs.declared.Timeline.{Timeline}

-- the timeline's value with the engine's run places and the store
abbrev pub with_lent : Timeline → (ls ll rs rl store : List ℕ) → TimelineOf chain_kind
with_lent v ls ll rs rl t = timeline_of chain_kind (conf v.engine ls ll rs rl) t v.times

abbrev pub tl : ChainSim → Times → Timeline
tl e v = record { engine = e; times = v }

-- an answer, with the timeline handed back
abbrev pub replied : Result Outcome Refusal → TimelineOf chain_kind → Reply Outcome × TimelineOf chain_kind
replied a w = any.replied chain_kind a w

-- the answer of `new`, with the store that it leaves
abbrev pub begun : Result Timeline Refusal → (ls ll rs rl store : List ℕ) → Reply (TimelineOf chain_kind) × List ℕ
begun (Err why) ls ll rs rl t = (refused why, t)
begun (Ok v) ls ll rs rl t = (answered (with_lent v ls ll rs rl t), t)
