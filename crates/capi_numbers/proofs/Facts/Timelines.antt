-- The effect of a new timeline's C call, over any engine, follows from its reply and from the numbers stored. Assumes nothing.
use Rattle.std.specs.Prelude.{◌≡◌, List, ℕ}
use Rattle.std.proofs.Math.Path.{refl}
use Rattle.outcome.specs.declared.Refusal.{Refusal}
use Rattle.outcome.specs.Numbers.{refusal_number}
use Rattle.timeline_rule.specs.Model.Timeline.{Reply, refused, answered}
use Rattle.timeline_rule.specs.Model.Kind.{Kind, TimelineOf}
use Rattle.capi_engines.specs.Model.Engines.{with_times}
use Rattle.capi_numbers.specs.Model.Answers.{refused_out}
use Rattle.capi_numbers.specs.Model.Timelines.{timeline_new, timeline_new_call}

abbrev Begun : Kind → Type 0
Begun X = Reply (TimelineOf X) × List ℕ

module _ (X : Kind) (t us out : List ℕ) (g : Begun X) where
  pub timeline_made : (w : TimelineOf X) (ws : List ℕ) → ◌≡◌ {A = Begun X} (answered w, t) g → ws ≡ with_times us w.times → timeline_new 0 ws out t ≡ timeline_new_call X g us out
  unfolding timeline_new_call
  timeline_made w ws e p = rw (p, ← e) refl

  pub timeline_turned : (why : Refusal) (o : List ℕ) (n : ℕ) → ◌≡◌ {A = Begun X} (refused why, t) g → n ≡ refusal_number why → o ≡ refused_out why out
      → timeline_new n us o t ≡ timeline_new_call X g us out
  unfolding timeline_new_call
  timeline_turned why o n e p q = rw (p, q, ← e) refl
