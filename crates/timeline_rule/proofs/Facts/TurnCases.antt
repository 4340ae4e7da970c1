-- One turn of a timeline's loop, for each way through its code: record if due, advance, and go on or end. Assumes nothing.
use Rattle.std.specs.Prelude.{◌≡◌, Bool, true, ltb, eqb, length, take, drop}
use Rattle.std.proofs.Math.Path.{refl, sym, ap}
use Rattle.std.proofs.Common.{◌∙◌, subst, arith, length-drop, length-take-le}
use Rattle.std.proofs.Math.Bool.{false}
use mathlib.Core.List.{List, ◌++◌}
use Prim.Native.Nat.{ℕ, ◌+◌, ◌-◌, ◌*◌, ◌/◌, ◌≤◌, ◌<◌}
use borrow.Author.Tests.{le-leb, lt-leb, eq-eqb, ne_eqb, eqb-true, ltb-false}
use Rattle.notation.specs.Choice.{pick}
use Rattle.notation.proofs.Facts.Tests.{clash, pick_cases, pick_true, pick_false}
use Rattle.notation.specs.Limits.{steps_most}
use Rattle.outcome.specs.declared.Outcome.{Outcome}
use Rattle.machine.specs.declared.Machine.{Machine}
use Rattle.store_bytes.specs.Model.{slot_count, slot_of, put_slot}
use Rattle.store_bytes.proofs.Facts.Slots.{slot_inside, slot_part, slot_put}
use Rattle.timeline_rule.specs.declared.Times.{Times}
use Rattle.timeline_rule.specs.Model.Engine.{Ops}
use Rattle.timeline_rule.specs.Model.Timeline.{due, one_more, halved, ended, thinned, recorded, record_due, stride, turned, advance_to, gas_for}
use Rattle.timeline_rule.specs.Model.Due.{is_due, stop_for, thin_times, thin_store, Thinned, TimesFit, RecordOk}
use Rattle.timeline_rule.proofs.Facts.DueCases.{double_fits}
use Rattle.timeline_rule.proofs.Facts.Loop.{either, Moves, Strides, strides, turn_is}
use Rattle.timeline_rule.specs.Model.Kind.{Kind, TimelineOf, ops_of}
use Rattle.timeline_rule.specs.Invariants.{timeline_of, Sound, Shape, RecOk, LoopOk, StrideOk, stride_of, way_of, TurnSays, LoopInv}

-- ---- the stride

module _ (v : Times) (t p stop : ℕ) (stops : stop ≡ stop_for t v p) where
  pub stride_fuel : p ≤ t → t ≤ steps_most → p + (stop - p) ≤ steps_most
  stride_fuel l h = omega arith

module _ (X : Kind) (m : Machine) (s : List ℕ) where
  pub stride_is : (v : Times) (t stop : ℕ) (e : X.State) (x : Outcome × X.State)
      → x ≡ X.advance m s (stop - X.now e) e → stop ≡ stop_for t v (X.now e) → x ≡ stride_of X m s t v e
  stride_is v t stop e x p q = p ∙ ap (λ n. X.advance m s (n - X.now e) e) q

-- ---- saving into a slot that is lent as a part of the store

pub saved_is : (X : Kind) (m : Machine) (e : X.State) (size i : ℕ) (t ys : List ℕ) → ys ≡ X.pack m e (take (i * size + size - i * size) (drop (i * size) t))
    → length ys ≡ length (take (i * size + size - i * size) (drop (i * size) t)) → i * size + size ≤ length t
    → take (i * size) t ++ (ys ++ drop (i * size + size - i * size) (drop (i * size) t)) ≡ put_slot size i (X.pack m e (slot_of size i t)) t
saved_is X m e size i t ys q l h =
    let k : length (take (i * size + size - i * size) (drop (i * size) t)) ≡ i * size + size - i * size
    = length-take-le (i * size + size - i * size) (drop (i * size) t) (omega (arith, length-drop (i * size) t)) in
    slot_put size i t ys (omega (arith, l, k)) ∙ ap (λ b. put_slot size i b t) (q ∙ ap (X.pack m e) (slot_part size i t))

-- ---- recording

pub shape_fits_lem : (v : Times) → Shape v → TimesFit v
shape_fits_lem v h = record { first_in = h.first_in; every_in = h.every_in }

parts : (X : Kind) (e : X.State) (b : Bool) (t u : List ℕ) (v x : Times) → pick b (timeline_of X e t v) (timeline_of X e u x) ≡ timeline_of X e (pick b t u) (pick b v x)
unfolding pick
parts X e true t u v x = refl
parts X e false t u v x = refl

module _ (X : Kind) (m : Machine) (s : List ℕ) (size : ℕ) (Fits : X.State → Type 0) (E : Sound X m s size Fits) where
  abbrev O : Ops Outcome
  O = ops_of X m s size

  pub rec_low : (w : TimelineOf X) → RecOk X size Fits w → X.now w.engine ≤ steps_most
  rec_low w o = E.low w.engine o.fits

  -- the next slot lies inside the store
  pub rec_inside : (w : TimelineOf X) → RecOk X size Fits w → w.times.count * size + size ≤ length w.store
  rec_inside w o = slot_inside size w.times.count w.store (omega (arith, o.room, o.shape.count_in))

  module _ (e : X.State) (v : Times) (t : List ℕ) (b : Bool) (asked : b ≡ is_due v (X.now e)) where
    pub rec_not : b ≡ false → timeline_of X e t v ≡ record_due O (timeline_of X e t v)
    unfolding record_due
    rec_not z = sym (pick_false _ _ _ (sym asked ∙ z))

    module _ (yes : b ≡ true) (t₁ : List ℕ) where
      pub rec_more : RecOk X size Fits (timeline_of X e t v) → length t₁ ≡ length t → RecordOk v t₁ size
      rec_more o l = record {
        few = omega (arith, o.shape.count_in, o.shape.most_in);
        inside = omega (arith, rec_inside (timeline_of X e t v) o);
        doubles = double_fits v (X.now e) o.shape.count_low (E.low e o.fits) (eqb-true (X.now e) (due v) (sym asked ∙ yes));
      }

      pub rec_yes : (t₂ : List ℕ) (v₂ : Times) → t₁ ≡ put_slot size v.count (X.pack m e (slot_of size v.count t)) t → Thinned (one_more v) v₂ size t₁ t₂
          → timeline_of X e t₂ v₂ ≡ record_due O (timeline_of X e t v)
      unfolding record_due recorded thinned thin_times thin_store
      rec_yes t₂ v₂ q p = sym (pick_true _ _ _ (sym asked ∙ yes) ∙ (parts X e (ltb v.most (v.count + 1)) _ _ _ _ ∙ sym made))
        where
          u : List ℕ
          u = put_slot size v.count (X.pack m e (slot_of size v.count t)) t

          kept : t₂ ≡ thin_store size (one_more v) u
          kept = p.store ∙ ap (thin_store size (one_more v)) q

          made : timeline_of X e t₂ v₂ ≡ timeline_of X e (thin_store size (one_more v) u) (thin_times (one_more v))
          made j = timeline_of X e (kept j) (p.value j)

  -- recording keeps the bounds on the timeline's numbers
  pub rec_shape : (w : TimelineOf X) → RecOk X size Fits w → Shape (record_due O w).times
  unfolding record_due recorded thinned
  rec_shape w o = either (λ (x : TimelineOf X). Shape x.times) (eqb (X.now w.engine) (due w.times)) (recorded O w) w
      (pick_cases (ltb w.times.most (w.times.count + 1)) _ _ (λ (x : TimelineOf X). Shape x.times) (λ _. half) (λ q. more (ltb-false w.times.most (w.times.count + 1) q)))
      o.shape
    where
      half : Shape (halved (one_more w.times))
      half = record {
        most_in = o.shape.most_in;
        first_in = o.shape.first_in;
        count_low = omega (arith, o.shape.count_low);
        count_in = omega (arith, o.shape.count_in, o.shape.count_low);
        every_in = omega (arith, o.shape.every_in);
      }

      more : w.times.count + 1 ≤ w.times.most → Shape (one_more w.times)
      more l = record {
        most_in = o.shape.most_in;
        first_in = o.shape.first_in;
        count_low = omega (arith, o.shape.count_low);
        count_in = l;
        every_in = o.shape.every_in;
      }

  pub rec_most : (w : TimelineOf X) → (record_due O w).times.most ≡ w.times.most
  unfolding record_due recorded thinned
  rec_most w = either (λ (x : TimelineOf X). x.times.most ≡ w.times.most) (eqb (X.now w.engine) (due w.times)) (recorded O w) w
      (either (λ (x : TimelineOf X). x.times.most ≡ w.times.most) (ltb w.times.most (w.times.count + 1)) _ _ refl refl) refl

  -- ---- the result of a turn

  abbrev pub moves : Moves O
  moves = record { Fits = Fits; advance_fits = E.advance_fits; advance_climbs = E.advance_climbs }

  module _ (e : X.State) (v v₁ : Times) (t t₁ : List ℕ) (target : ℕ)
      (recs : timeline_of X e t₁ v₁ ≡ record_due O (timeline_of X e t v)) (ok : LoopOk X size Fits target (timeline_of X e t v)) where
    shape₁ : Shape v₁
    shape₁ = subst (λ (w : TimelineOf X). Shape w.times) (sym recs) (rec_shape (timeline_of X e t v) ok.rec)

    pub turn_stride : StrideOk X size Fits target v₁ e
    turn_stride = record { fits = ok.rec.fits; numbers = shape_fits_lem v₁ shape₁; below = ok.below; top = ok.top }

    module _ (e₁ : X.State) (o : Outcome) (strode : ◌≡◌ {A = Outcome × X.State} (o, e₁) (stride_of X m s target v₁ e)) (long : length t₁ ≡ length t) where
      abbrev w₀ : TimelineOf X
      w₀ = timeline_of X e t v

      abbrev w₁ : TimelineOf X
      w₁ = timeline_of X e₁ t₁ v₁

      same_stride : stride O target (record_due O w₀) ≡ (o, e₁)
      same_stride = ap (stride O target) (sym recs) ∙ sym strode

      same_world : turned O target w₀ ≡ w₁
      same_world j = timeline_of X (same_stride j).1 (sym recs j).store (sym recs j).times

      fits_on : Strides moves target w₀
      fits_on = strides moves target w₀ ok.rec.fits ok.below ok.top

      climbs_on : X.now e ≤ X.now e₁
      climbs_on = subst (λ (w : TimelineOf X). X.now e ≤ X.now w.engine) same_world fits_on.climbs

      ok_on : X.now e₁ ≤ target → LoopOk X size Fits target w₁
      ok_on h = record {
        rec = record {
          fits = subst (λ (w : TimelineOf X). Fits w.engine) same_world fits_on.fits;
          shape = shape₁;
          room = enough (ap (λ (w : TimelineOf X). w.times.most) recs ∙ rec_most w₀);
        };
        below = h;
        top = ok.top;
      }
        where
          enough : v₁.most ≡ v.most → v₁.most < slot_count size t₁
          enough k = subst (λ n. v₁.most < n / size) (sym long) (omega (arith, ok.rec.room, k))

      same_way : (d : Bool) → ended target (X.now e₁) (X.now e) ≡ d → way_of X m s size target w₀ ≡ pick d (o, w₁) (way_of X m s size target w₁)
      unfolding way_of
      same_way d q = turn_is moves target w₀ ok.rec.fits ok.below ok.top
          ∙ (ap (λ (w : TimelineOf X). pick (ended target (X.now w.engine) (X.now e)) ((stride O target (record_due O w₀)).0, w) (advance_to O (gas_for O target w) target w)) same_world
          ∙ (ap (λ (r : Outcome × X.State). pick (ended target (X.now e₁) (X.now e)) (r.0, w₁) (advance_to O (gas_for O target w₁) target w₁)) same_stride
          ∙ ap (λ b. pick b (o, w₁) (advance_to O (gas_for O target w₁) target w₁)) q))

      done : ended target (X.now e₁) (X.now e) ≡ true → TurnSays X m s size Fits target w₀ o true w₁
      done q = record { same = same_way true q; next = λ z. absurd (clash refl z); climbs = λ z. absurd (clash refl z) }

      pub turn_there : target ≤ X.now e₁ → TurnSays X m s size Fits target w₀ o true w₁
      unfolding ended
      turn_there h = done (pick_true _ _ _ (le-leb target (X.now e₁) h))

      pub turn_stuck : X.now e₁ < target → X.now e₁ ≡ X.now e → TurnSays X m s size Fits target w₀ o true w₁
      unfolding ended
      turn_stuck h k = done (pick_false _ _ _ (lt-leb target (X.now e₁) h) ∙ eq-eqb (X.now e₁) (X.now e) k)

      pub turn_on_holds : X.now e₁ < target → (X.now e₁ ≡ X.now e → ⊥) → TurnSays X m s size Fits target w₀ o false w₁
      unfolding ended
      turn_on_holds h k = record {
        same = same_way false (pick_false _ _ _ (lt-leb target (X.now e₁) h) ∙ ne_eqb (X.now e₁) (X.now e) k);
        next = λ _. ok_on (omega arith);
        climbs = λ _. omega (arith, climbs_on, k);
      }

-- ---- the loop

module _ (X : Kind) (m : Machine) (s : List ℕ) (size : ℕ) (Fits : X.State → Type 0) (t : ℕ) where
  module _ (w₀ w w₁ : TimelineOf X) (o : Outcome) (done : Bool) (says : TurnSays X m s size Fits t w o done w₁) (inv : LoopInv X m s size Fits t w₀ w) where
    pub loop_stop : done ≡ true → (o, w₁) ≡ way_of X m s size t w₀
    loop_stop d = sym (sym inv.same ∙ (says.same ∙ pick_true _ _ _ d))

    pub loop_next : done ≡ false → LoopInv X m s size Fits t w₀ w₁
    loop_next d = record { same = sym (sym inv.same ∙ (says.same ∙ pick_false _ _ _ d)); ok = says.next d }

    pub loop_fall : done ≡ false → t - X.now w₁.engine < t - X.now w.engine
    loop_fall d = omega (arith, says.climbs d, (says.next d).below)
