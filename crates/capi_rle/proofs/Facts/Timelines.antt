-- The effect of a C call of a timeline over the run-length engine follows from its operation and from the numbers stored. Assumes nothing.
use Rattle.outcome.specs.declared.Refusal.{Refusal}
use Rattle.std.specs.Prelude.{◌≡◌, refl, List, ℕ, Err, Ok, Result}
use Rattle.outcome.specs.declared.Outcome.{Outcome}
use Rattle.timeline_rule.specs.Model.Timeline.{Reply}
use Rattle.timeline_rule.specs.Model.Kind.{TimelineOf}
use Rattle.rle_slots.specs.Model.Kind.{chain_kind}
use Rattle.rle_timeline.specs.declared.Timeline.{Timeline}
use Rattle.rle_timeline.specs.Model.{with_lent, replied}
use Rattle.capi_engines.specs.Model.Engines.{with_times}
use Rattle.capi_rle.specs.Model.Calls.{HandedBack}
use Rattle.capi_rle.specs.Model.Timelines.{chain_timeline_call, chain_moved_call}

pub chain_timeline_called : (v : Timeline) (ls ll rs rl t xs ys us ws out o : List ℕ) (n q c : ℕ) (g : Reply Outcome × TimelineOf chain_kind) (a : Result Outcome Refusal)
    → replied a (with_lent v ls ll rs rl t) ≡ g → ws ≡ with_times us v.times → HandedBack v.engine a xs out n q c ys o
    → chain_timeline_call n q c ys ws o ls ll rs rl t ≡ chain_moved_call g xs us out
unfolding chain_moved_call
chain_timeline_called v ls ll rs rl t xs ys us ws out o n q c g (Ok x) e z h = rw (z, h.code, h.state, h.cur, h.engine, h.out, ← e) refl
chain_timeline_called v ls ll rs rl t xs ys us ws out o n q c g (Err why) e z h = rw (z, h.code, h.state, h.cur, h.engine, h.out, ← e) refl
