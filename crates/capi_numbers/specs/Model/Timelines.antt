-- The effect of the C calls of a timeline over any engine. Definitions only.
use Rattle.std.specs.Prelude.{List, ℕ}
use Rattle.outcome.specs.declared.Outcome.{Outcome}
use Rattle.outcome.specs.Numbers.{refusal_number, values_of}
use Rattle.timeline_rule.specs.Model.Timeline.{Reply, refused, answered}
use Rattle.timeline_rule.specs.Model.Kind.{Kind, TimelineOf}
use Rattle.capi_engines.specs.Model.Engines.{with_times}
use Rattle.capi_numbers.specs.Model.Answers.{refused_out, values_out}

-- ---- the reply of a call: its result, and the answer's values

abbrev pub reply_code : Reply Outcome → ℕ
reply_code (refused why) = refusal_number why
reply_code (answered o) = 0

abbrev pub reply_out : Reply Outcome → List ℕ → List ℕ
reply_out (refused why) out = refused_out why out
reply_out (answered o) out = values_out (values_of o) out

-- ---- a new timeline: the result, the timeline's numbers, the answer's values, and the store

pub record TimelineNew : Type 0 where
  pub code : ℕ
  pub times : List ℕ
  pub out : List ℕ
  pub store : List ℕ

abbrev pub timeline_new : (code : ℕ) (times out store : List ℕ) → TimelineNew
timeline_new code times out store = record { code = code; times = times; out = out; store = store }

-- a refused timeline leaves the numbers as they were
abbrev pub timeline_new_on : (X : Kind) → Reply (TimelineOf X) → (times out store : List ℕ) → TimelineNew
timeline_new_on X (refused why) times out store = timeline_new (refusal_number why) times (refused_out why out) store
timeline_new_on X (answered w) times out store = timeline_new 0 (with_times times w.times) out store

unfoldable pub timeline_new_call : (X : Kind) → Reply (TimelineOf X) × List ℕ → (times out : List ℕ) → TimelineNew
timeline_new_call X r times out = timeline_new_on X r.0 times out r.1
