-- The effect of a C call of a timeline over the plain engine follows from its operation and from the numbers stored. Assumes nothing.
use Rattle.outcome.specs.declared.Refusal.{Refusal}
use Rattle.std.specs.Prelude.{◌≡◌, refl, List, ℕ, Err, Ok, Result}
use Rattle.outcome.specs.declared.Outcome.{Outcome}
use Rattle.timeline_rule.specs.Model.Timeline.{Reply}
use Rattle.timeline_rule.specs.Model.Kind.{TimelineOf}
use Rattle.sim_slots.specs.Model.Kind.{plain_kind}
use Rattle.sim_timeline.specs.declared.Timeline.{Timeline}
use Rattle.sim_timeline.specs.Model.{with_lent, replied}
use Rattle.capi_engines.specs.Model.Engines.{with_times}
use Rattle.capi_sim.specs.Model.Calls.{HandedBack}
use Rattle.capi_sim.specs.Model.Timelines.{timeline_call, moved_call}

pub timeline_called : (v : Timeline) (d0 d1 d2 t xs ys us ws out o : List ℕ) (n q : ℕ) (g : Reply Outcome × TimelineOf plain_kind) (a : Result Outcome Refusal)
    → replied a (with_lent v d0 d1 d2 t) ≡ g → ws ≡ with_times us v.times → HandedBack v.engine a xs out n q ys o
    → timeline_call n q ys ws o d0 d1 d2 t ≡ moved_call g xs us out
unfolding moved_call
timeline_called v d0 d1 d2 t xs ys us ws out o n q g (Ok x) e z h = rw (z, h.code, h.state, h.engine, h.out, ← e) refl
timeline_called v d0 d1 d2 t xs ys us ws out o n q g (Err why) e z h = rw (z, h.code, h.state, h.engine, h.out, ← e) refl
