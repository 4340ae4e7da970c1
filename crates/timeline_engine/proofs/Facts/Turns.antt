-- The loop that goes forward: what one turn requires and gives, for each way through its code. Assumes nothing.
use Rattle.std.specs.Prelude.{◌≡◌, refl, false, List, ℕ, ◌-◌, ◌≤◌, ◌<◌, length}
use Rattle.std.proofs.Common.{◌∙◌, sym, ap, arith}
use Rattle.outcome.specs.declared.Outcome.{Outcome}
use Rattle.machine.specs.declared.Machine.{Machine}
use Rattle.timeline_rule.specs.declared.Times.{Times}
use Rattle.timeline_rule.specs.Model.Timeline.{record_due}
use Rattle.timeline_rule.specs.Model.Due.{stop_for}
use Rattle.timeline_rule.specs.Model.Kind.{Kind, TimelineOf, ops_of}
use Rattle.timeline_rule.specs.Invariants.{timeline_of, Sound, StrideOk, stride_of, way_of, TurnSays, LoopInv, Fits}
use Rattle.timeline_rule.proofs.Facts.TurnCases.{stride_fuel, turn_stride, turn_there, turn_stuck, turn_on_holds, loop_stop, loop_next, loop_fall}
use Rattle.timeline_engine.specs.Engine.{Advances}

module _ (X : Kind) (m : Machine) (s : List ℕ) (size : ℕ) (S : Sound X m s size (Fits X m s size)) (target : ℕ) (w : TimelineOf X)
    (e : X.State) (v v₁ : Times) (t t₁ : List ℕ) (inv : LoopInv X m s size (Fits X m s size) target w (timeline_of X e t v))
    (recs : timeline_of X e t₁ v₁ ≡ record_due (ops_of X m s size) (timeline_of X e t v)) where
  pub ready : StrideOk X size (Fits X m s size) target v₁ e
  ready = turn_stride X m s size (Fits X m s size) S e v v₁ t t₁ target recs inv.ok

  module _ (before stop : ℕ) (now : before ≡ X.now e) (stops : stop ≡ stop_for target v₁ before) where
    pub advances : Advances X m s (stop - before) e
    advances = record {
      accepted = ready.fits.accepted;
      fuel = omega (arith, now, stride_fuel v₁ target before stop stops (omega (arith, now, ready.below)) ready.top);
    }

    module _ (o : Outcome) (e₁ : X.State) (went : ◌≡◌ {A = Outcome × X.State} (o, e₁) (X.advance m s (stop - before) e)) (long : length t₁ ≡ length t)
        (reached : ℕ) (there : reached ≡ X.now e₁) where
      strode : ◌≡◌ {A = Outcome × X.State} (o, e₁) (stride_of X m s target v₁ e)
      strode = went ∙ (ap (λ n. X.advance m s (n - before) e) stops ∙ ap (λ n. X.advance m s (stop_for target v₁ n - n) e) now)

      abbrev w₁ : TimelineOf X
      w₁ = timeline_of X e₁ t₁ v₁

      pub ends_there : target ≤ reached → (o, w₁) ≡ way_of X m s size target w
      ends_there h = loop_stop X m s size (Fits X m s size) target w _ w₁ o _
          (turn_there X m s size (Fits X m s size) S e v v₁ t t₁ target recs inv.ok e₁ o strode long (omega (arith, there, h))) inv refl

      pub ends_stuck : reached < target → reached ≡ before → (o, w₁) ≡ way_of X m s size target w
      ends_stuck h k = loop_stop X m s size (Fits X m s size) target w _ w₁ o _
          (turn_stuck X m s size (Fits X m s size) S e v v₁ t t₁ target recs inv.ok e₁ o strode long (omega (arith, there, h)) (sym there ∙ (k ∙ now))) inv refl

      module _ (h : reached < target) (k : reached ≡ before → ⊥) where
        says : TurnSays X m s size (Fits X m s size) target (timeline_of X e t v) o false w₁
        says = turn_on_holds X m s size (Fits X m s size) S e v v₁ t t₁ target recs inv.ok e₁ o strode long (omega (arith, there, h)) (λ z. k (there ∙ (z ∙ sym now)))

        pub goes_on : LoopInv X m s size (Fits X m s size) target w w₁
        goes_on = loop_next X m s size (Fits X m s size) target w _ w₁ o false says inv refl

        pub falls : target - X.now e₁ < target - X.now e
        falls = loop_fall X m s size (Fits X m s size) target w _ w₁ o false says inv refl
