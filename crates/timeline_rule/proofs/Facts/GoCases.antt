-- The moves of an accepted call, for each way through the code: on, back to a slot, or none; and what its check implies. Assumes nothing.
use Rattle.std.specs.Prelude.{◌≡◌, refl, true, length, take, drop, Err, None, Ok, Option, Result, Some, ⊤}
use Rattle.std.proofs.Math.Path.{sym, ap}
use Rattle.std.proofs.Common.{◌∙◌, mul-le-mul_right, div-mul-le_self, arith}
use mathlib.Core.List.{List}
use Prim.Native.Nat.{ℕ, ◌+◌, ◌-◌, ◌*◌, ◌/◌, ◌≤◌, ◌<◌, max}
use borrow.Author.Tests.{lt-ltb, le-ltb, eq-eqb, ne_eqb, leb-true, ltb-true}
use Rattle.notation.proofs.Facts.Tests.{pick_true, pick_false}
use Rattle.notation.specs.Limits.{steps_most}
use Rattle.outcome.specs.declared.Outcome.{Outcome}
use Rattle.outcome.specs.declared.Refusal.{Refusal}
use Rattle.outcome.specs.declared.Refusal.TheVariants as Why
use Rattle.machine.specs.declared.Machine.{Machine}
use Rattle.machine.specs.Model.Check.{checked_on}
use Rattle.machine.proofs.Facts.Check.{demand_says, on_says}
use Rattle.store_bytes.specs.Model.{slot_count, slot_of}
use Rattle.store_bytes.proofs.Facts.Slots.{slot_part}
use Rattle.timeline_rule.specs.declared.Times.{Times}
use Rattle.timeline_rule.specs.Model.Engine.{Ops}
use Rattle.timeline_rule.specs.declared.Call.TheVariants.{Seek}
use Rattle.timeline_rule.specs.Model.Timeline.{Reply, refused, answered, times_ok, slot_for, slot_step, said, go_on, from_slot, go_back, stay, go_to, first_check, later_check, call_check, on_check, call, new_check}
use Rattle.timeline_rule.specs.Model.Kind.{Kind, TimelineOf, ops_of}
use Rattle.timeline_rule.specs.Invariants.{timeline_of, Sound, Shape, LoopOk, GoOk, rewind_of, way_of}
use Rattle.timeline_rule.proofs.Facts.CheckCases.{times_shape}

-- the step of the slot to go back to is at most the target
pub back_small : (v : Times) (t i : ℕ) → i ≡ slot_for t v → v.first ≤ t → v.first + i * v.every ≤ t
back_small v t i q h =
    let m : i ≤ (t - v.first) / v.every = omega arith in
    omega (arith, mul-le-mul_right v.every m, div-mul-le_self (t - v.first) v.every)

module _ (X : Kind) (m : Machine) (s : List ℕ) (size : ℕ) where
  abbrev O : Ops Outcome
  O = ops_of X m s size

  -- ---- go on

  pub on_goes : (t : ℕ) (w w₁ : TimelineOf X) (o : Outcome) → (o, w₁) ≡ way_of X m s size t w → (answered o, w₁) ≡ go_on O t w
  unfolding go_on way_of
  on_goes t w w₁ o q = ap (said O) q

  -- ---- go back

  module _ (t : ℕ) (e : X.State) (v : Times) (b : List ℕ) where
    pub rewind_is : (i p : ℕ) (x : Option X.State) → i ≡ slot_for t v → p ≡ v.first + i * v.every → x ≡ X.unpack m (slot_of size i b) p e
        → x ≡ rewind_of X m s size t (timeline_of X e b v)
    unfolding rewind_of
    rewind_is i p x q r z = z ∙ (ap (λ n. X.unpack m (slot_of size i b) n e) r ∙ ap (λ n. X.unpack m (slot_of size n b) (v.first + n * v.every) e) q)

    -- the same where the slot was lent as a part of the store
    pub rewind_part : (i : ℕ) (x : Option X.State) → i ≡ slot_for t v
        → x ≡ X.unpack m (take (i * size + size - i * size) (drop (i * size) b)) (v.first + i * v.every) e → x ≡ rewind_of X m s size t (timeline_of X e b v)
    rewind_part i x q z = rewind_is i (v.first + i * v.every) x q refl (z ∙ ap (λ l. X.unpack m l (v.first + i * v.every) e) (slot_part size i b))

    pub back_none : None ≡ rewind_of X m s size t (timeline_of X e b v) → (refused Why.Slot, timeline_of X e b v) ≡ go_back O t (timeline_of X e b v)
    unfolding go_back rewind_of
    back_none z = ap (from_slot O t (timeline_of X e b v)) z

    pub back_some : (r : X.State) (x : Reply Outcome × TimelineOf X) → Some r ≡ rewind_of X m s size t (timeline_of X e b v)
        → x ≡ go_on O t (timeline_of X r b v) → x ≡ go_back O t (timeline_of X e b v)
    unfolding go_back rewind_of
    back_some r x z q = q ∙ ap (from_slot O t (timeline_of X e b v)) z

    -- ---- go to

    pub to_here : (o : Outcome) (r : X.State) → (o, r) ≡ X.advance m s 0 e → t ≡ X.now e → (answered o, timeline_of X r b v) ≡ go_to O t (timeline_of X e b v)
    unfolding go_to stay
    to_here o r q h = ap (λ (a : Outcome × X.State). (answered a.0, timeline_of X a.1 b v)) q ∙ sym (pick_true _ _ _ (eq-eqb t (X.now e) h))

    module _ (x : Reply Outcome × TimelineOf X) (n : t ≡ X.now e → ⊥) where
      pub to_back : x ≡ go_back O t (timeline_of X e b v) → t < X.now e → x ≡ go_to O t (timeline_of X e b v)
      unfolding go_to
      to_back q h = q ∙ sym (pick_false _ _ _ (ne_eqb t (X.now e) n) ∙ pick_true _ _ _ (lt-ltb t (X.now e) h))

      pub to_on : x ≡ go_on O t (timeline_of X e b v) → X.now e ≤ t → x ≡ go_to O t (timeline_of X e b v)
      unfolding go_to
      to_on q h = q ∙ sym (pick_false _ _ _ (ne_eqb t (X.now e) n) ∙ pick_false _ _ _ (le-ltb t (X.now e) h))

  -- ---- the refusals of a call and of a new timeline: the engine's, then the others

  module _ (t : ℕ) (e : X.State) (v : Times) (b : List ℕ) (r : Result ⊤ Refusal) (checked : r ≡ X.check m s e) where
    pub call_check_lem : (why : Refusal) → r ≡ Err why → Err why ≡ call_check O (timeline_of X e b v) t
    unfolding call_check
    call_check_lem why z = rw (← checked, z)

    pub call_later : (n : ℕ) (x : Result ⊤ Refusal) → n ≡ size → r ≡ Ok tt → x ≡ later_check v (X.now e) (length b / n) t → x ≡ call_check O (timeline_of X e b v) t
    unfolding call_check
    call_later n x k z q = q ∙ (ap (λ i. later_check v (X.now e) (length b / i) t) k ∙ ap (λ c. checked_on c (later_check v (X.now e) (length b / size) t)) (sym z ∙ checked))

  module _ (most every : ℕ) (e : X.State) (b : List ℕ) (r : Result ⊤ Refusal) (checked : r ≡ X.check m s e) where
    pub new_check_lem : (why : Refusal) → r ≡ Err why → Err why ≡ new_check O most every e b
    unfolding new_check
    new_check_lem why z = rw (← checked, z)

    pub new_first : (n : ℕ) (x : Result ⊤ Refusal) → n ≡ size → r ≡ Ok tt → x ≡ first_check most every (length b / n) → x ≡ new_check O most every e b
    unfolding new_check
    new_first n x k z q = q ∙ (ap (λ i. first_check most every (length b / i)) k ∙ ap (λ c. checked_on c (first_check most every (length b / size))) (sym z ∙ checked))

  -- ---- what the check of an accepted call implies

  pub record Passed (t : ℕ) (w : TimelineOf X) : Type 0 where
    pub fits : X.check m s w.engine ≡ Ok tt
    pub times : times_ok w.times (X.now w.engine) ≡ true
    pub room : w.times.most < slot_count size w.store
    pub top : t ≤ steps_most

  pub call_says : (t : ℕ) (w : TimelineOf X) → call_check O w t ≡ Ok tt → Passed t w
  unfolding call_check
  call_says t w h =
      let a = on_says (X.check m s w.engine) _ h in
      let b = demand_says _ _ _ a.1 in
      let c = demand_says _ _ _ b.1 in
      let d = demand_says _ _ _ c.1 in
      record { fits = a.0; times = b.0; room = ltb-true _ _ c.0; top = leb-true t steps_most d.0 }

  -- ---- seek

  module _ (t : ℕ) (w : TimelineOf X) (r : Result ⊤ Refusal) (checked : r ≡ call_check O w t) where
    pub seek_refused : (why : Refusal) → r ≡ Err why → (refused why, w) ≡ call O w (Seek t)
    unfolding call
    seek_refused why z = rw (← checked, z)

    pub seek_goes : (g : ℕ) (x : Reply Outcome × TimelineOf X) → r ≡ Ok tt → g ≡ max t w.times.first → x ≡ go_to O g w → x ≡ call O w (Seek t)
    unfolding call
    seek_goes g x z q p = p ∙ (ap (λ n. go_to O n w) q ∙ ap (λ c. on_check O c w (go_to O (max t w.times.first) w)) (sym z ∙ checked))

    pub seek_ok : (Fits : X.State → Type 0) (E : Sound X m s size Fits) (g : ℕ) → r ≡ Ok tt → X.slot_size m w.engine ≡ size → g ≡ max t w.times.first
        → GoOk X size Fits g w
    seek_ok Fits E g z n q =
        let a : Passed t w = call_says t w (sym checked ∙ z) in
        let f : Fits w.engine = E.accepted w.engine a.fits n in
        let h : Shape w.times = times_shape w.times (X.now w.engine) a.times (E.low w.engine f) in
        record { rec = record { fits = f; shape = h; room = a.room }; start = omega arith; top = omega (arith, a.top, h.first_in) }

  -- ---- the requirements of the parts of a call, from those of the call

  module _ (Fits : X.State → Type 0) (E : Sound X m s size Fits) (t : ℕ) (w : TimelineOf X) (ok : GoOk X size Fits t w) where
    pub to_low : X.now w.engine + 0 ≤ steps_most
    to_low = omega (arith, E.low w.engine ok.rec.fits)

    pub back_step : slot_step t w.times ≤ t
    back_step = back_small w.times t (slot_for t w.times) refl ok.start

    pub back_loop : (r : X.State) → Some r ≡ rewind_of X m s size t w → LoopOk X size Fits t (timeline_of X r w.store w.times)
    unfolding rewind_of
    back_loop r z =
        let b : List ℕ = slot_of size (slot_for t w.times) w.store in
        let p : ℕ = slot_step t w.times in
        let l : p ≤ steps_most = omega (arith, back_step, ok.top) in
        record {
          rec = record { fits = E.restored_fits b p w.engine r ok.rec.fits l z; shape = ok.rec.shape; room = ok.rec.room };
          below = omega (arith, back_step, E.restored_now b p w.engine r ok.rec.fits l z);
          top = ok.top;
        }
