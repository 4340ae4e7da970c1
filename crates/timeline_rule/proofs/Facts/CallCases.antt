-- Seek, forward and back, for each way through their code. Assumes nothing.
use Rattle.std.specs.Prelude.{◌≡◌, List, ◌⊎◌, leb, Err, Ok, Result, ⊤}
use Rattle.std.proofs.Math.Path.{sym, ap}
use Rattle.std.proofs.Common.{◌∙◌, inl, inr, arith, leb-true, leb-false}
use Prim.Native.Nat.{ℕ, ◌+◌, ◌-◌, ◌<◌, max}
use Rattle.notation.proofs.Facts.Tests.{by_test, pick_true, pick_false}
use Rattle.notation.specs.Limits.{steps_most}
use Rattle.outcome.specs.declared.Outcome.{Outcome}
use Rattle.outcome.specs.declared.Refusal.{Refusal}
use Rattle.machine.specs.declared.Machine.{Machine}
use Rattle.timeline_rule.specs.declared.Call.{Call}
use Rattle.timeline_rule.specs.declared.Call.TheVariants.{Seek, Forward, Back}
use Rattle.timeline_rule.specs.Model.Timeline.{Reply, refused, go_to, call_check, call}
use Rattle.timeline_rule.specs.Model.Due.{forward_to}
use Rattle.timeline_rule.proofs.Facts.Loop.{forward_is, forward_over, back_is}
use Rattle.timeline_rule.specs.Model.Kind.{Kind, TimelineOf, ops_of, ops_for, call_on}
use Rattle.timeline_rule.specs.Invariants.{Sound, GoOk}
use Rattle.timeline_rule.proofs.Facts.GoCases.{seek_refused, seek_goes, seek_ok}

-- ---- forward and back by their targets

pub forward_to_lem : (p n : ℕ) → (forward_to p n ≡ p + n) ⊎ ((steps_most < p + n) × (forward_to p n ≡ steps_most + 1))
unfolding forward_to
forward_to_lem p n = by_test (leb p steps_most)
    (λ a. by_test (leb n (steps_most - p))
    (λ b. inl (pick_true _ _ _ a ∙ pick_true _ _ _ b))
    (λ b. inr (omega (arith, leb-true p steps_most a, leb-false n (steps_most - p) b), pick_true _ _ _ a ∙ pick_false _ _ _ b)))
    (λ a. inr (omega (arith, leb-false p steps_most a), pick_false _ _ _ a))

module _ (X : Kind) (m : Machine) (s : List ℕ) (w : TimelineOf X) (x : Reply Outcome × TimelineOf X) where
  -- the lent buffers determine the slot's size
  pub call_on_holds : (size : ℕ) (c : Call) → x ≡ call (ops_of X m s size) w c → X.slot_size m w.engine ≡ size → x ≡ call_on X m s w c
  unfolding call_on
  call_on_holds size c p q = p ∙ ap (λ n. call (ops_of X m s n) w c) (sym q)

  module _ (n g : ℕ) (p : x ≡ call_on X m s w (Seek g)) where
    pub forward_on : g ≡ forward_to (X.now w.engine) n → x ≡ call_on X m s w (Forward n)
    unfolding call_on
    forward_on q = p ∙ (ap (λ k. call (ops_for X m s w.engine) w (Seek k)) q ∙ by (forward_to_lem (X.now w.engine) n))
      where
        now : ℕ
        now = X.now w.engine

        by : (forward_to now n ≡ now + n) ⊎ ((steps_most < now + n) × (forward_to now n ≡ steps_most + 1))
            → call (ops_for X m s w.engine) w (Seek (forward_to now n)) ≡ call (ops_for X m s w.engine) w (Forward n)
        by (inl k) = ap (λ j. call (ops_for X m s w.engine) w (Seek j)) k ∙ sym (forward_is (ops_for X m s w.engine) w n)
        by (inr k) = ap (λ j. call (ops_for X m s w.engine) w (Seek j)) k.1 ∙ sym (forward_over (ops_for X m s w.engine) w n k.0)

    pub back_on : g ≡ X.now w.engine - n → x ≡ call_on X m s w (Back n)
    unfolding call_on
    back_on q = p ∙ (ap (λ k. call (ops_for X m s w.engine) w (Seek k)) q ∙ sym (back_is (ops_for X m s w.engine) w n))

-- ---- seek: the check uses the slot's size of the lent buffers, which the code computes as n

module _ (X : Kind) (m : Machine) (s : List ℕ) (w : TimelineOf X) (t : ℕ) (r : Result ⊤ Refusal) (checked : r ≡ call_check (ops_for X m s w.engine) w t) where
  pub seek_none : (why : Refusal) → r ≡ Err why → (refused why, w) ≡ call_on X m s w (Seek t)
  unfolding call_on
  seek_none why z = seek_refused X m s (X.slot_size m w.engine) t w r checked why z

  module _ (n g : ℕ) (sized : n ≡ X.slot_size m w.engine) (z : r ≡ Ok tt) (q : g ≡ max t w.times.first) where
    same_check : r ≡ call_check (ops_of X m s n) w t
    same_check = checked ∙ ap (λ k. call_check (ops_of X m s k) w t) (sym sized)

    pub seek_ready : (Fits : X.State → Type 0) (E : Sound X m s n Fits) → GoOk X n Fits g w
    seek_ready Fits E = seek_ok X m s n t w r same_check Fits E g z (sym sized) q

    pub seek_done : (x : Reply Outcome × TimelineOf X) → x ≡ go_to (ops_of X m s n) g w → x ≡ call_on X m s w (Seek t)
    seek_done x p = call_on_holds X m s w x n (Seek t) (seek_goes X m s n t w r same_check g x z q p) (sym sized)
