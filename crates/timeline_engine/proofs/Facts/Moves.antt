-- The check of a call and the moves of an accepted one, for each way through their code. Assumes nothing.
use Rattle.std.specs.Prelude.{◌≡◌, refl, true, false, List, ℕ, ◌+◌, ◌-◌, ◌*◌, ◌/◌, ◌≤◌, max, length, take, drop, Option, None, Some, Result, Ok, Err, ⊤}
use Rattle.std.proofs.Common.{◌∙◌, sym, ap, arith}
use Rattle.notation.specs.Limits.{steps_most}
use Rattle.outcome.specs.declared.Outcome.{Outcome}
use Rattle.outcome.specs.declared.Refusal.{Refusal}
use Rattle.outcome.specs.declared.Refusal.TheVariants as Why
use Rattle.machine.specs.declared.Machine.{Machine}
use Rattle.timeline_rule.specs.declared.Times.{Times}
use Rattle.timeline_rule.specs.declared.Call.TheVariants.{Seek}
use Rattle.timeline_rule.specs.Model.Timeline.{Reply, refused, answered, slot_for, go_back, go_to, later_check, call_check}
use Rattle.timeline_rule.specs.Model.Kind.{Kind, TimelineOf, ops_of, ops_for, call_on}
use Rattle.timeline_rule.specs.Invariants.{timeline_of, Sound, LoopOk, GoOk, rewind_of, way_of, Fits}
use Rattle.timeline_rule.proofs.Facts.GoCases.{on_goes, rewind_part, back_none, back_some, back_loop, call_check_lem, call_later}
use Rattle.timeline_rule.proofs.Facts.CallCases.{seek_none, seek_ready, seek_done}
use Rattle.timeline_engine.specs.Engine.{sized, read_or}
use Rattle.timeline_engine.proofs.Facts.Answers.{passed, size_is, refused_by, none_read, none_kept, one_read}

-- ---- back to a slot

module _ (X : Kind) (m : Machine) (s : List ℕ) (size t : ℕ) (e : X.State) (v : Times) (b : List ℕ) where
  abbrev w : TimelineOf X
  w = timeline_of X e b v

  module _ (i : ℕ) (q : i ≡ slot_for t v) (r : X.State) where
    abbrev read : Option X.State
    read = X.unpack m (take (i * size + size - i * size) (drop (i * size) b)) (v.first + i * v.every) e

    pub back_refused : (false, r) ≡ read_or e read → (refused Why.Slot, timeline_of X r b v) ≡ go_back (ops_of X m s size) t w
    back_refused z = ap (λ x. (refused Why.Slot, timeline_of X x b v)) (none_kept e r read z)
        ∙ back_none X m s size t e v b (rewind_part X m s size t e v b i None q (none_read e r read z))

    module _ (z : (true, r) ≡ read_or e read) where
      at_slot : Some r ≡ rewind_of X m s size t w
      at_slot = rewind_part X m s size t e v b i (Some r) q (one_read e r read z)

      pub back_ready : Sound X m s size (Fits X m s size) → GoOk X size (Fits X m s size) t w → LoopOk X size (Fits X m s size) t (timeline_of X r b v)
      back_ready S ok = back_loop X m s size (Fits X m s size) S t w ok r at_slot

      pub back_done : (o : Outcome) (w₁ : TimelineOf X) → (o, w₁) ≡ way_of X m s size t (timeline_of X r b v) → (answered o, w₁) ≡ go_back (ops_of X m s size) t w
      back_done o w₁ p = back_some X m s size t e v b r _ at_slot (on_goes X m s size t _ w₁ o p)

-- ---- the check of a call

pub low_in : (X : Kind) (m : Machine) (s : List ℕ) (e : X.State) (n now : ℕ) → Sound X m s n (Fits X m s n) → Ok n ≡ sized (X.slot_size m e) (X.check m s e)
    → now ≡ X.now e → now ≤ steps_most
low_in X m s e n now S z k = omega (arith, k, S.low e (record { accepted = passed n _ _ z; sized = sym (size_is n _ _ z) }))

module _ (X : Kind) (m : Machine) (s : List ℕ) (e : X.State) (v : Times) (b : List ℕ) (t : ℕ) where
  abbrev size : ℕ
  size = X.slot_size m e

  abbrev checked : Result ℕ Refusal
  checked = sized size (call_check (ops_for X m s e) (timeline_of X e b v) t)

  pub engine_refused : (why : Refusal) → Err why ≡ sized size (X.check m s e) → Err why ≡ checked
  engine_refused why z = ap (sized size) (call_check_lem X m s size t e v b _ refl why (refused_by size why _ z))

  pub then_checked : (n now : ℕ) (x : Result ⊤ Refusal) → Ok n ≡ sized size (X.check m s e) → now ≡ X.now e → x ≡ later_check v now (length b / n) t → sized n x ≡ checked
  then_checked n now x z k q =
      ap (λ i. sized i x) (size_is n size _ z)
      ∙ ap (sized size) (call_later X m s size t e v b _ refl n x (size_is n size _ z) (passed n size _ z) (q ∙ ap (λ j. later_check v j (length b / n) t) k))

-- ---- seek

module _ (X : Kind) (m : Machine) (s : List ℕ) (w : TimelineOf X) (t : ℕ) where
  abbrev check : Result ⊤ Refusal
  check = call_check (ops_for X m s w.engine) w t

  pub seek_refused_by : (k : ℕ) (why : Refusal) → Err why ≡ sized k check → (refused why, w) ≡ call_on X m s w (Seek t)
  seek_refused_by k why z = seek_none X m s w t check refl why (refused_by k why check z)

  module _ (n : ℕ) (z : Ok n ≡ sized (X.slot_size m w.engine) check) (g : ℕ) (q : g ≡ max t w.times.first) where
    pub seek_may_go : Sound X m s n (Fits X m s n) → GoOk X n (Fits X m s n) g w
    seek_may_go S = seek_ready X m s w t check refl n g (size_is n _ check z) (passed n _ check z) q (Fits X m s n) S

    pub seek_gone : (x : Reply Outcome × TimelineOf X) → x ≡ go_to (ops_of X m s n) g w → x ≡ call_on X m s w (Seek t)
    seek_gone x p = seek_done X m s w t check refl n g (size_is n _ check z) (passed n _ check z) q x p
