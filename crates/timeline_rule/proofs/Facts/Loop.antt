-- Lemmas that the proofs of a timeline's code need beside the theorem: enough gas, and calls by their targets. None requires a fresh timeline. Assumes nothing.
use Rattle.outcome.specs.declared.Refusal.{Refusal}
use Prim.Native.Nat.{ℕ, zero, suc, ◌+◌, ◌-◌, ◌≤◌, ◌<◌, max}
use Rattle.std.specs.Prelude.{◌≡◌, Bool, true, false, ◌⊎◌, leb, ltb, eqb, Err, Ok, Result, ⊤}
use Rattle.std.proofs.Math.Path.{refl, sym, ap}
use Rattle.std.proofs.Common.{◌∙◌, subst, inl, inr, arith, leb-true, leb-false, eqb-true}
use Rattle.std.proofs.lemmas.Bool.{eqb-false, lt-leb}
use Rattle.notation.specs.Choice.{pick}
use Rattle.notation.proofs.Facts.Tests.{clash, by_test, pick_true, pick_false, pick_cases}
use Rattle.notation.specs.Limits.{steps_most}
use Rattle.outcome.specs.declared.Refusal.TheVariants as Why
use Rattle.machine.specs.Model.Check.{demand, checked_on}
use Rattle.timeline_rule.specs.Model.Engine.{Ops}
use Rattle.timeline_rule.specs.declared.Call.TheVariants.{Seek, Forward, Back}
use Rattle.timeline_rule.specs.Model.Timeline.{Reply, TimelineOver, due, times_ok, ended, thinned, recorded, record_due, stop_at, stride, turned, advance_to, gas_for, go_to, call_check, on_check, call}

-- ---- a call by its target

module _ {Out : Type 0} (O : Ops Out) (w : TimelineOver O) where
  pub forward_is : (n : ℕ) → call O w (Forward n) ≡ call O w (Seek (O.now w.engine + n))
  unfolding call
  forward_is n = refl

  pub back_is : (n : ℕ) → call O w (Back n) ≡ call O w (Seek (O.now w.engine - n))
  unfolding call
  back_is n = refl

  -- all targets over 2^62 get the same refusal
  module _ (t : ℕ) (l : steps_most < t) where
    late : demand (leb t steps_most) Why.StepLimit (Ok tt) ≡ Err Why.StepLimit
    late = pick_false (leb t steps_most) (Ok tt) (Err Why.StepLimit) (lt-leb t steps_most l)

    -- the check of such a target
    abbrev late_check : Result ⊤ Refusal
    late_check =
        checked_on (O.check w.engine)
        (demand (times_ok w.times (O.now w.engine)) Why.Settings
        (demand (ltb w.times.most (O.slots w.store)) Why.StoreSize (Err Why.StepLimit)))

    check_late : call_check O w t ≡ late_check
    unfolding call_check
    check_late = rw late

    refused_late : (x y : Reply Out × TimelineOver O) → on_check O late_check w x ≡ on_check O late_check w y
    refused_late x y = by (O.check w.engine)
      where
        Same : Result ⊤ Refusal → Type 0
        Same r = on_check O r w x ≡ on_check O r w y

        inner : Result ⊤ Refusal
        inner = demand (ltb w.times.most (O.slots w.store)) Why.StoreSize (Err Why.StepLimit)

        by : (r : Result ⊤ Refusal) → Same (checked_on r (demand (times_ok w.times (O.now w.engine)) Why.Settings inner))
        by (Err why) = refl
        by (Ok tt) = pick_cases (times_ok w.times (O.now w.engine)) inner (Err Why.Settings) Same
            (λ _. pick_cases (ltb w.times.most (O.slots w.store)) (Err Why.StepLimit) (Err Why.StoreSize) Same (λ _. refl) (λ _. refl)) (λ _. refl)

  -- so the code need not compute p + n where it is over 2^62
  pub forward_over : (n : ℕ) → steps_most < O.now w.engine + n → call O w (Forward n) ≡ call O w (Seek (steps_most + 1))
  unfolding call
  forward_over n l =
      let t : ℕ = O.now w.engine + n in
      let x : Reply Out × TimelineOver O = go_to O (max t w.times.first) w in
      let y : Reply Out × TimelineOver O = go_to O (max (steps_most + 1) w.times.first) w in
      ap (λ r. on_check O r w x) (check_late t l) ∙ (refused_late t l x y ∙ ap (λ r. on_check O r w y) (sym (check_late (steps_most + 1) (omega arith))))

-- ---- the loop

module _ {Out : Type 0} (O : Ops Out) where
  -- whether the loop ends at w, after a turn that began at step n
  abbrev pub Done : ℕ → TimelineOver O → ℕ → Bool
  Done t w n = ended t (O.now w.engine) n

pub done : (t k n : ℕ) → ended t k n ≡ true → (t ≤ k) ⊎ (k ≡ n)
unfolding ended
done t k n q = by_test (leb t k) (λ r. inl (leb-true t k r)) (λ r. inr (eqb-true k n (sym (pick_false (leb t k) true (eqb k n) r) ∙ q)))

pub not_done : (t k n : ℕ) → ended t k n ≡ false → (k < t) × ¬ (k ≡ n)
unfolding ended
not_done t k n q = by_test (leb t k) (λ r. absurd (clash (pick_true (leb t k) true (eqb k n) r) q))
    (λ r. (leb-false t k r, eqb-false k n (sym (pick_false (leb t k) true (eqb k n) r) ∙ q)))

pub either : {A : Type 0} (P : A → Type 0) (b : Bool) (x y : A) → P x → P y → P (pick b x y)
either P b x y p q = pick_cases b x y P (λ _. p) (λ _. q)

module _ {Out : Type 0} (O : Ops Out) where
  -- recording leaves the engine as it is
  pub record_engine : (w : TimelineOver O) → (record_due O w).engine ≡ w.engine
  unfolding record_due recorded thinned
  record_engine w = either (λ (v : TimelineOver O). v.engine ≡ w.engine) (eqb (O.now w.engine) (due w.times)) (recorded O w) w
      (either (λ (v : TimelineOver O). v.engine ≡ w.engine) (ltb w.times.most (w.times.count + 1)) _ _ refl refl) refl

-- all that the proofs of the code require of an engine (a part of Laws): an advance keeps the engine fitting and does not go back
pub record Moves {Out : Type 0} (O : Ops Out) : Type 1 where
  pub Fits : O.State → Type 0
  pub advance_fits : (n : ℕ) (s : O.State) → Fits s → O.now s + n ≤ steps_most → Fits (O.advance n s).1
  pub advance_climbs : (n : ℕ) (s : O.State) → Fits s → O.now s + n ≤ steps_most → O.now s ≤ O.now (O.advance n s).1

module _ {Out : Type 0} {O : Ops Out} (E : Moves O) where
  -- after one turn the engine fits and has not gone back
  pub record Strides (t : ℕ) (w : TimelineOver O) : Type 0 where
    pub fits : E.Fits (turned O t w).engine
    pub climbs : O.now w.engine ≤ O.now (turned O t w).engine

  pub strides : (t : ℕ) (w : TimelineOver O) → E.Fits w.engine → O.now w.engine ≤ t → t ≤ steps_most → Strides t w
  strides t w f l h = record {
    fits = E.advance_fits n v g small;
    climbs = subst (λ s. O.now s ≤ O.now (turned O t w).engine) (record_engine O w) (E.advance_climbs n v g small);
  }
    where
      v : O.State
      v = (record_due O w).engine

      n : ℕ
      n = stop_at O t (record_due O w) - O.now v

      g : E.Fits v
      g = subst E.Fits (sym (record_engine O w)) f

      small : O.now v + n ≤ steps_most
      small = omega (arith, ap O.now (record_engine O w))

  -- any two amounts of gas that are enough give the same result
  pub gas_enough : (g k t : ℕ) (w : TimelineOver O) → E.Fits w.engine → O.now w.engine ≤ t → t ≤ steps_most
      → t < g + O.now w.engine → t < k + O.now w.engine → advance_to O g t w ≡ advance_to O k t w
  unfolding advance_to
  gas_enough zero k t w f l h a b = absurd (omega arith)
  gas_enough (suc g) zero t w f l h a b = absurd (omega arith)
  gas_enough (suc g) (suc k) t w f l h a b = by_test (Done O t v (O.now w.engine))
      (λ q. pick_true _ _ _ q ∙ sym (pick_true _ _ _ q))
      (λ q. ap (pick (Done O t v (O.now w.engine)) ((stride O t (record_due O w)).0, v)) (on (not_done t (O.now v.engine) (O.now w.engine) q) (strides t w f l h) (λ d. gas_enough g k t v d)))
    where
      v : TimelineOver O
      v = turned O t w

      on : (O.now v.engine < t) × ¬ (O.now v.engine ≡ O.now w.engine) → Strides t w
          → (E.Fits v.engine → O.now v.engine ≤ t → t ≤ steps_most → t < g + O.now v.engine → t < k + O.now v.engine → advance_to O g t v ≡ advance_to O k t v)
          → advance_to O g t v ≡ advance_to O k t v
      on c r ih = ih r.fits (omega (arith, c.0)) h (omega (arith, c.1, r.climbs)) (omega (arith, c.1, r.climbs))

  -- one turn of the loop, with the gas of the contract. The loop's invariant: `advance_to` from here gives what `advance_to` gives from the start
  pub turn_is : (t : ℕ) (w : TimelineOver O) → E.Fits w.engine → O.now w.engine ≤ t → t ≤ steps_most
      → advance_to O (gas_for O t w) t w ≡ pick (Done O t (turned O t w) (O.now w.engine)) ((stride O t (record_due O w)).0, turned O t w)
      (advance_to O (gas_for O t (turned O t w)) t (turned O t w))
  unfolding advance_to
  turn_is t w f l h = by_test (Done O t v (O.now w.engine))
      (λ q. pick_true _ _ _ q ∙ sym (pick_true _ _ _ q))
      (λ q. ap (pick (Done O t v (O.now w.engine)) ((stride O t (record_due O w)).0, v)) (on (not_done t (O.now v.engine) (O.now w.engine) q) (strides t w f l h)))
    where
      v : TimelineOver O
      v = turned O t w

      on : (O.now v.engine < t) × ¬ (O.now v.engine ≡ O.now w.engine) → Strides t w → advance_to O (t - O.now w.engine) t v ≡ advance_to O (gas_for O t v) t v
      on c r = gas_enough (t - O.now w.engine) (gas_for O t v) t v r.fits (omega (arith, c.0)) h (omega (arith, c.1, r.climbs, c.0)) (omega arith)
