-- A timeline over any kind of engine refuses by its lists of tests, and a refusal changes nothing. Assumes nothing.
use Rattle.std.proofs.Math.Path.{◌≡◌, refl, sym, ap, subst⁻¹}
use Rattle.std.proofs.Common.{◌∙◌, subst, arith}
use Rattle.std.specs.Prelude.{Bool, ℕ, max, eqb, ltb, leb, Err, None, Ok, Option, Result, Some, ⊤}
use Rattle.std.proofs.Math.Bool.{true}
use mathlib.Core.List.{List, [], ◌∷◌, ◌++◌, append_assoc}
use borrow.Author.Tests.{eqb-true, le-ltb}
use Rattle.notation.specs.Choice.{pick}
use Rattle.notation.proofs.Facts.Tests.{pick_cases, pick_true, pick_false}
use Rattle.notation.specs.Limits.{steps_most}
use Rattle.outcome.specs.declared.Outcome.{Outcome}
use Rattle.outcome.specs.declared.Refusal.{Refusal}
use Rattle.outcome.specs.declared.Refusal.TheVariants as Why
use Rattle.outcome.specs.Numbers.{refusal_number}
use Rattle.machine.specs.declared.Machine.{Machine}
use Rattle.machine.specs.Model.Check.{checked_on}
use Rattle.table_laws.specs.WellFormed.{Bytes}
use Rattle.sim.specs.Model.Engine.{Conf}
use Rattle.sim.specs.Model.Operations.{engine_check}
use Rattle.store_bytes.specs.Model.{slot_count}
use Rattle.timeline_rule.specs.Model.Engine.{Ops}
use Rattle.timeline_rule.specs.declared.Call.{Call}
use Rattle.timeline_rule.specs.Model.Timeline.{Reply, refused, target, new_ok, times_ok, slot_for, slot_step, go_on, from_slot, go_back, stay, go_to, call_check, on_check, call, new_check, born, on_new, new}
use Rattle.timeline_rule.specs.Model.Kind.{Kind, TimelineOf, ops_for, new_on, call_on, store_after, new_with}
use Rattle.demands_first.specs.FirstClaims.{Test, or, first_of, numbers_of, TurnsAway}
use Rattle.demands_first.specs.FirstTests.{table_tests, plain_sizes, plain_fits}
use Rattle.demands_first.proofs.Facts.First.{turns, on_first, table_first, value_first}
use Rattle.demands_first.specs.FirstTimeline.{of_reply, is_there, slot_holds, plain_engine_tests, new_settings, later_settings, timeline_new_tests, timeline_call_tests, TimelineOperations}
use Rattle.demands_first.specs.FirstSlots.{Meaning}
use Rattle.demands_first.proofs.Facts.FirstTimelineSpace.{Slots, Engine, slot_says, call_stops}

-- ---- tests before an operation with its own tests

pub numbers_add : (a b : List Test) → numbers_of (a ++ b) ≡ numbers_of a ++ numbers_of b
unfolding numbers_of
numbers_add [] b = refl
numbers_add (t ∷ a) b = ap (λ l. refusal_number t.why ∷ l) (numbers_add a b)

-- `on Accepted` is the result where the tests a all pass; b is the list of the tests after them
turns-after : {X : Type 0} (na nb : List ℕ) (a b : List Test) (refusal : X → Result ⊤ Refusal) (as_it_was : Refusal → X) (on : Result ⊤ Refusal → X) (c : Result ⊤ Refusal)
    → numbers_of a ≡ na → c ≡ first_of a → TurnsAway nb b refusal as_it_was (on (Ok tt)) → ((why : Refusal) → on (Err why) ≡ as_it_was why)
    → ((why : Refusal) → refusal (as_it_was why) ≡ Err why) → TurnsAway (na ++ nb) (a ++ b) refusal as_it_was (on c)
turns-after na nb a b refusal as_it_was on c n e last kept says =
    record { numbered = numbers_add a b ∙ (λ i. n i ++ last.numbered i); first = by c ∙ on_first c (first_of b) a b e refl; unchanged = same c }
  where
    by : (c : Result ⊤ Refusal) → refusal (on c) ≡ checked_on c (first_of b)
    by (Ok tt) = last.first
    by (Err why) = ap refusal (kept why) ∙ says why

    same : (c : Result ⊤ Refusal) → (why : Refusal) → refusal (on c) ≡ Err why → on c ≡ as_it_was why
    same (Ok tt) why h = last.unchanged why h
    same (Err r) why h = let k : Err r ≡ Err why = sym (by (Err r)) ∙ h in let q : r ≡ why = cc in kept r ∙ ap as_it_was q

module _ (X : Kind) (numbers : List ℕ) (engine_tests : Machine → (table : List ℕ) → X.State → List Test)
    (numbered : (m : Machine) (s : List ℕ) (e : X.State) → numbers_of (engine_tests m s e) ≡ numbers)
    (checked : (m : Machine) (s : List ℕ) (e : X.State) → X.check m s e ≡ first_of (engine_tests m s e)) where
  module _ (m : Machine) (s : List ℕ) where
    -- ---- a new timeline

    module _ (most every : ℕ) (e : X.State) (store : List ℕ) where
      abbrev O : Ops Outcome
      O = ops_for X m s e

      new_first : new_check O most every e store ≡ first_of (timeline_new_tests X engine_tests m s most every e store)
      unfolding new_check new_ok first_of
      new_first = on_first _ _ (engine_tests m s e) (or (new_settings most every) Why.Settings ∷ or (ltb most (slot_count (X.slot_size m e) store)) Why.StoreSize ∷ []) (checked m s e) refl

      new_turns : TurnsAway (numbers ++ 14 ∷ 15 ∷ []) (timeline_new_tests X engine_tests m s most every e store) (λ (x : Reply (TimelineOf X) × List ℕ). of_reply x.0)
          (λ why. (refused why, store)) (new_with X m s most every e store)
      unfolding numbers_of new_with new_on new
      new_turns = turns _ (timeline_new_tests X engine_tests m s most every e store) (λ (x : Reply (TimelineOf X) × List ℕ). of_reply x.0) (λ why. (refused why, store))
          (λ c. (on_new O c (born O most every e store), store_after X (on_new O c (born O most every e store)) store)) _
          (numbers_add (engine_tests m s e) (or (new_settings most every) Why.Settings ∷ or (ltb most (slot_count (X.slot_size m e) store)) Why.StoreSize ∷ []) ∙ ap (λ l. l ++ 14 ∷ 15 ∷ []) (numbered m s e))
          new_first refl (λ why. refl) (λ why. refl)

    -- ---- a call

    module _ (w : TimelineOf X) where
      abbrev P : Ops Outcome
      P = ops_for X m s w.engine

      abbrev Left : Type 0
      Left = Reply Outcome × TimelineOf X

      -- the call to t, where no test before 16 fails
      abbrev GoesTo : ℕ → Bool → Left → Type 0
      GoesTo t b x = TurnsAway (16 ∷ []) (or b Why.Slot ∷ []) (λ (x : Left). of_reply x.0) (λ why. (refused why, w)) x

      goes : (t : ℕ) (b : Bool) (x : Left) → b ≡ true → of_reply x.0 ≡ Ok tt → GoesTo t b x
      unfolding numbers_of first_of
      goes t b x e a = record {
        numbered = refl;
        first = a ∙ sym (pick_true b _ _ e);
        unchanged = λ why h. let k : (Ok tt) ≡ Err why = sym a ∙ h in let z : ◌≡◌ {A = ℕ} 0 1 = cc in absurd (omega arith);
      }

      on_goes : (t : ℕ) (v : TimelineOf X) → of_reply (go_on P t v).0 ≡ Ok tt
      unfolding go_on
      on_goes t v = refl

      from_slot_lem : (t : ℕ) (x : Option X.State) → GoesTo t (is_there x) (from_slot P t w x)
      unfolding numbers_of first_of pick
      from_slot_lem t None = record { numbered = refl; first = refl; unchanged = λ why h. let q : Why.Slot ≡ why = cc in ap (λ r. (refused r, w)) q }
      from_slot_lem t (Some e) = goes t true _ refl (on_goes t _)

      stay_goes : of_reply (stay P w).0 ≡ Ok tt
      unfolding stay
      stay_goes = refl

      back_turns : (t : ℕ) → GoesTo t (is_there (P.restore (slot_for t w.times) (slot_step t w.times) w.engine w.store)) (go_back P t w)
      unfolding go_back
      back_turns t = from_slot_lem t (P.restore (slot_for t w.times) (slot_step t w.times) w.engine w.store)

      to_turns : (t : ℕ) → GoesTo t (slot_holds X m w t) (go_to P t w)
      unfolding go_to
      to_turns t = pick_cases (eqb t (X.now w.engine)) _ _ (GoesTo t (slot_holds X m w t))
          (λ h. goes t _ _ (pick_false _ _ _ (le-ltb t (X.now w.engine) (omega (arith, eqb-true t (X.now w.engine) h)))) stay_goes)
          (λ h. pick_cases (ltb t (X.now w.engine)) _ _ (GoesTo t (slot_holds X m w t))
          (λ l. subst⁻¹ (λ b. GoesTo t b (go_back P t w)) (pick_true _ _ _ l) (back_turns t))
          (λ l. goes t _ _ (pick_false _ _ _ l) (on_goes t w)))

      module _ (c : Call) where
        abbrev asked : List Test
        asked =
            or (later_settings w.times (X.now w.engine)) Why.Settings
            ∷ or (ltb w.times.most (slot_count (X.slot_size m w.engine) w.store)) Why.StoreSize
            ∷ or (leb (target (X.now w.engine) c) steps_most) Why.StepLimit
            ∷ []

        call-first : call_check P w (target (X.now w.engine) c) ≡ first_of (engine_tests m s w.engine ++ asked)
        unfolding call_check times_ok first_of
        call-first = on_first _ _ (engine_tests m s w.engine) asked (checked m s w.engine) refl

        call_numbered : numbers_of (engine_tests m s w.engine ++ asked) ≡ numbers ++ 14 ∷ 15 ∷ 13 ∷ []
        unfolding numbers_of
        call_numbered = numbers_add (engine_tests m s w.engine) asked ∙ ap (λ l. l ++ 14 ∷ 15 ∷ 13 ∷ []) (numbered m s w.engine)

        abbrev slot : List Test
        slot = or (slot_holds X m w (max (target (X.now w.engine) c) w.times.first)) Why.Slot ∷ []

        parted : TurnsAway (numbers ++ 14 ∷ 15 ∷ 13 ∷ [] ++ 16 ∷ []) (engine_tests m s w.engine ++ asked ++ slot) (λ (x : Left). of_reply x.0) (λ why. (refused why, w)) (call_on X m s w c)
        unfolding call_on call
        parted = turns-after (numbers ++ 14 ∷ 15 ∷ 13 ∷ []) (16 ∷ []) (engine_tests m s w.engine ++ asked) slot (λ (x : Left). of_reply x.0) (λ why. (refused why, w))
            (λ c'. on_check P c' w (go_to P (max (target (X.now w.engine) c) w.times.first) w)) _ call_numbered call-first
            (to_turns (max (target (X.now w.engine) c) w.times.first)) (λ why. refl) (λ why. refl)

        call_turns : TurnsAway (numbers ++ 14 ∷ 15 ∷ 13 ∷ 16 ∷ []) (timeline_call_tests X engine_tests m s w c) (λ (x : Left). of_reply x.0) (λ why. (refused why, w)) (call_on X m s w c)
        call_turns =
            subst (λ n. TurnsAway n (timeline_call_tests X engine_tests m s w c) (λ (x : Left). of_reply x.0) (λ why. (refused why, w)) (call_on X m s w c))
            (append_assoc numbers (14 ∷ 15 ∷ 13 ∷ []) (16 ∷ []))
            (subst (λ l. TurnsAway (numbers ++ 14 ∷ 15 ∷ 13 ∷ [] ++ 16 ∷ []) l (λ (x : Left). of_reply x.0) (λ why. (refused why, w)) (call_on X m s w c))
            (append_assoc (engine_tests m s w.engine) asked slot) parted)

  pub timeline_operations : (M : Meaning X) → ((m : Machine) → Slots X M m) → ((m : Machine) (s : List ℕ) → Bytes s → Engine X M m s)
      → TimelineOperations X M numbers engine_tests
  timeline_operations M slots engine = record {
    new = new_turns;
    call = call_turns;
    slot_fits = λ m. slot_says X M m (slots m);
    full = λ m s bytes w w' c n. call_stops X M m s (engine m s bytes) w w' n c;
  }

-- ---- the plain engine's own refusals

pub plain_engine_first : (m : Machine) (s : List ℕ) (σ : Conf) → engine_check m s σ ≡ first_of (plain_engine_tests m s σ)
unfolding engine_check
plain_engine_first m s σ = on_first _ _ (table_tests m s) (plain_sizes m s σ ∷ plain_fits m s σ ∷ []) (table_first m s) (value_first m s σ)
