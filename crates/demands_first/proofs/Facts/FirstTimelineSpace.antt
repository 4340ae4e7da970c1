-- A timeline's call that ends for lack of space, over any kind of engine: its loop makes advances. Assumes nothing.
use Rattle.std.specs.Prelude.{◌≡◌, ◌↔◌, Bool, true, false, List, eqb, ltb, Err, None, Ok, Option, Result, Some, ⊤}
use Rattle.std.proofs.Math.Path.{refl, ap, subst, subst⁻¹}
use Rattle.std.proofs.Common.{sym, ◌∙◌, arith, lt-ltb, ltb-true, ltb-false}
use Prim.Native.Nat.{ℕ, zero, suc, ◌+◌, ◌-◌, ◌*◌, ◌≤◌, ◌<◌}
use Rattle.notation.specs.Choice.{pick}
use Rattle.notation.proofs.Facts.Tests.{by_test, pick_cases, pick_true, pick_false}
use Rattle.notation.specs.Limits.{steps_most}
use Rattle.outcome.specs.declared.Outcome.{Outcome}
use Rattle.outcome.specs.declared.Outcome.TheVariants.{Full}
use Rattle.outcome.specs.declared.Refusal.{Refusal}
use Rattle.machine.specs.declared.Machine.{Machine}
use Rattle.table_machine.specs.TableMachine.{run}
use Rattle.table_machine.specs.Tables.{table_of}
use Rattle.table_machine.proofs.Facts.Run.{run_add}
use Rattle.store_bytes.specs.Model.{slot_of}
use Rattle.timeline_rule.specs.Model.Engine.{Ops}
use Rattle.timeline_rule.specs.declared.Call.{Call}
use Rattle.timeline_rule.specs.Model.Timeline.{Reply, refused, answered, target, slot_for, slot_step, ended, record_due, with_engine, stop_at, stride, turned, advance_to, gas_for, go_on, from_slot, go_back, stay, go_to, on_check, call}
use Rattle.timeline_rule.proofs.Facts.Loop.{not_done, record_engine}
use Rattle.timeline_rule.proofs.Facts.GoCases.{back_small, call_says}
use Rattle.timeline_rule.proofs.Facts.CheckCases.{times_shape}
use Rattle.timeline_rule.specs.Model.Kind.{Kind, TimelineOf, ops_of, ops_for, call_on}
use Rattle.demands_first.specs.FirstSlots.{Meaning, bytes_at}
use Rattle.demands_first.specs.FirstTimeline.{is_there, slot_holds, aim_of, slot_bytes, slot_engine, SlotFits, went_from}
use Rattle.demands_first.specs.FirstSpace.{StopsFull}

-- ---- a slot that is read where its test passes

pub there_is : {A : Type 0} (b : Bool) (x : A) → is_there (pick b (Some x) None) ≡ b
unfolding pick
there_is true x = refl
there_is false x = refl

pub there_says : {A : Type 0} (b : Bool) (x r : A) → pick b (Some x) None ≡ Some r → (b ≡ true) × (x ≡ r)
unfolding pick
there_says true x r q = (refl, cc)
there_says false x r q = let z : ◌≡◌ {A = ℕ} 0 1 = cc in absurd (omega arith)

-- ---- the requirements on a kind of engine

-- the size of a slot, and the meaning of its test for the engine that the slot's bytes encode
pub record Slots (X : Kind) (M : Meaning X) (m : Machine) : Type 0 where
  pub size : (e : X.State) → X.slot_size m e ≡ M.slot_size m e
  pub shows : (b : List ℕ) (p : ℕ) (e : X.State) → (is_there (X.unpack m b p e) ≡ true) ↔ ((X.now (M.shown m b e) ≡ p) × M.Fits m (M.shown m b e))

module _ (X : Kind) (M : Meaning X) (m : Machine) (s : List ℕ) where
  -- an advance of n steps from e answered o and left e'
  pub record Advanced (n : ℕ) (e : X.State) (o : Outcome) (e' : X.State) : Type 0 where
    pub made : ℕ
    pub within : made ≤ n
    pub accepted : X.check m s e' ≡ Ok tt
    pub counted : X.now e' ≡ X.now e + made
    pub holds : M.config m e' ≡ run (table_of m s) made (M.config m e)
    pub full : (k : ℕ) → o ≡ Full k → (made < n) × (k ≡ X.now e') × M.NextFull m s e'

  -- r was read from a slot's bytes for step p into the buffers of e
  pub record ReadBack (b : List ℕ) (p : ℕ) (e r : X.State) : Type 0 where
    pub accepted : X.check m s r ≡ Ok tt
    pub at_step : X.now r ≡ p
    pub holds : M.config m r ≡ M.config m (M.shown m b e)

  pub record Engine : Type 0 where
    pub now_is : (e : X.State) → X.now e ≡ (M.config m e).steps
    pub low : (e : X.State) → X.check m s e ≡ Ok tt → X.now e ≤ steps_most
    pub advances : (n : ℕ) (e : X.State) → X.check m s e ≡ Ok tt → X.now e + n ≤ steps_most → Advanced n e (X.advance m s n e).0 (X.advance m s n e).1
    pub reads : (b : List ℕ) (p : ℕ) (e r : X.State) → X.check m s e ≡ Ok tt → X.unpack m b p e ≡ Some r → ReadBack b p e r
    pub slots : Slots X M m

-- ---- the slot to go back to

module _ (X : Kind) (M : Meaning X) (m : Machine) (S : Slots X M m) (w : TimelineOf X) (t : ℕ) where
  bytes_are : slot_of (X.slot_size m w.engine) (slot_for t w.times) w.store ≡ slot_bytes X M m w t
  unfolding slot_of
  bytes_are = ap (λ z. bytes_at (slot_for t w.times * z) z w.store) (S.size w.engine)

  abbrev Shows : List ℕ → Type 0
  Shows b = (X.now (M.shown m b w.engine) ≡ slot_step t w.times) × M.Fits m (M.shown m b w.engine)

  shows : (is_there (X.unpack m (slot_of (X.slot_size m w.engine) (slot_for t w.times) w.store) (slot_step t w.times) w.engine) ≡ true) ↔ Shows (slot_bytes X M m w t)
  shows = subst (λ b. (is_there (X.unpack m (slot_of (X.slot_size m w.engine) (slot_for t w.times) w.store) (slot_step t w.times) w.engine) ≡ true) ↔ Shows b) bytes_are
      (S.shows _ (slot_step t w.times) w.engine)

  pub slot_says : (slot_holds X m w t ≡ true) ↔ (t < X.now w.engine → SlotFits X M m w t)
  slot_says = (
    λ h l.
        let q = shows.0 (sym (pick_true _ _ _ (lt-ltb t (X.now w.engine) l)) ∙ h) in
        record { of_its_step = q.0; fits = q.1 },
    λ f. by_test (ltb t (X.now w.engine))
        (λ l. let g = f (ltb-true t (X.now w.engine) l) in pick_true _ _ _ l ∙ shows.1 (g.of_its_step, g.fits))
        (λ l. pick_false _ _ _ l),
  )

module _ (X : Kind) (M : Meaning X) (m : Machine) (s : List ℕ) (E : Engine X M m s) where
  -- a call or a part of it that goes from e towards t, answers Full n and leaves e'
  abbrev Stops : (t n : ℕ) → (e e' : X.State) → Type 0
  Stops t n e e' = StopsFull (table_of m s) (M.config m e) (M.config m e') t n (M.NextFull m s e')

  -- an advance of no steps is not full
  still : (e : X.State) → X.check m s e ≡ Ok tt → (n : ℕ) → (X.advance m s 0 e).0 ≡ Full n → ⊥
  still e a n q =
      let l = E.low e a in
      let f = (E.advances 0 e a (omega arith)).full n q in
      omega (arith, f.0)

  -- ---- one advance, then the rest

  module _ (t j : ℕ) (e e' : X.State) (o : Outcome) (short : X.now e + j ≤ t) (a : Advanced X M m s j e o e') where
    advance_stops : (n : ℕ) → o ≡ Full n → Stops t n e e'
    advance_stops n q =
        let f = a.full n q in
        record {
          made = a.made;
          within = omega (arith, E.now_is e, f.0);
          counted = f.1 ∙ a.counted ∙ ap (λ k. k + a.made) (E.now_is e);
          steps = sym (E.now_is e') ∙ sym f.1;
          reached = a.holds;
          next = f.2;
        }

    advance_then : (n : ℕ) (u : X.State) → Stops t n e' u → Stops t n e u
    advance_then n u b = record {
      made = a.made + b.made;
      within = omega (arith, b.within, a.counted, E.now_is e, E.now_is e');
      counted = omega (arith, b.counted, a.counted, E.now_is e, E.now_is e');
      steps = b.steps;
      reached = b.reached ∙ ap (run (table_of m s) b.made) a.holds ∙ sym (run_add (table_of m s) a.made b.made (M.config m e));
      next = b.next;
    }

  -- ---- the loop

  module _ (size : ℕ) where
    abbrev O : Ops Outcome
    O = ops_of X m s size

    module _ (t : ℕ) (w : TimelineOf X) (accepted : X.check m s w.engine ≡ Ok tt) (below : X.now w.engine ≤ t) (top : t ≤ steps_most) where
      abbrev e : X.State
      e = (record_due O w).engine

      same : e ≡ w.engine
      same = record_engine O w

      abbrev j : ℕ
      j = stop_at O t (record_due O w) - X.now e

      short : X.now e + j ≤ t
      short = omega (arith, ap X.now same)

      leg : Advanced X M m s j e (stride O t (record_due O w)).0 (turned O t w).engine
      leg = E.advances j e (ap (X.check m s) same ∙ accepted) (omega (arith, short))

      -- the claim about a result x of the loop from w on
      abbrev Claim : Outcome × TimelineOf X → Type 0
      Claim x = (n : ℕ) → x.0 ≡ Full n → Stops t n w.engine x.1.engine

      from_here : (n : ℕ) (u : X.State) → Stops t n e u → Stops t n w.engine u
      from_here n u = subst (λ y. Stops t n y u) same

      turn_ends : Claim ((stride O t (record_due O w)).0, turned O t w)
      turn_ends n q = from_here n _ (advance_stops t j e _ _ short leg n q)

      turn_goes : (x : Outcome × TimelineOf X) → ((n : ℕ) → x.0 ≡ Full n → Stops t n (turned O t w).engine x.1.engine) → Claim x
      turn_goes x rest n q = from_here n _ (advance_then t j e _ _ short leg n _ (rest n q))

    loop_stops : (gas t : ℕ) (w : TimelineOf X) → X.check m s w.engine ≡ Ok tt → X.now w.engine ≤ t → t ≤ steps_most
        → (n : ℕ) → (advance_to O gas t w).0 ≡ Full n → Stops t n w.engine (advance_to O gas t w).1.engine
    unfolding advance_to
    loop_stops zero t w a l h = λ n q. absurd (still w.engine a n q)
    loop_stops (suc gas) t w a l h =
        let ih = loop_stops gas t (turned O t w) in
        pick_cases (ended t (X.now (turned O t w).engine) (X.now w.engine)) _ _ (Claim t w a l h)
        (λ d. turn_ends t w a l h)
        (λ d. turn_goes t w a l h (advance_to O gas t (turned O t w)) (ih (leg t w a l h).accepted (omega (arith, (not_done _ _ _ d).0)) h))

    -- ---- go on, from an accepted engine

    on_stops : (t : ℕ) (w : TimelineOf X) → X.check m s w.engine ≡ Ok tt → X.now w.engine ≤ t → t ≤ steps_most
        → (n : ℕ) (w' : TimelineOf X) → go_on O t w ≡ (answered (Full n), w') → Stops t n w.engine w'.engine
    unfolding go_on
    on_stops t w a l h n w' q =
        let k = ap (λ (x : Reply Outcome × TimelineOf X). x.0) q in
        let f : (advance_to O (gas_for O t w) t w).0 ≡ Full n = cc in
        let u : (advance_to O (gas_for O t w) t w).1 ≡ w' = ap (λ (x : Reply Outcome × TimelineOf X). x.1) q in
        subst (λ (v : TimelineOf X). Stops t n w.engine v.engine) u (loop_stops (gas_for O t w) t w a l h n f)

  -- ---- a call

  module _ (w w' : TimelineOf X) (n : ℕ) where
    abbrev P : Ops Outcome
    P = ops_for X m s w.engine

    -- the claim about a part of a call that goes on from e and leaves x
    abbrev Says : (t : ℕ) → X.State → Reply Outcome × TimelineOf X → Type 0
    Says t e x = x ≡ (answered (Full n), w') → Stops t n e w'.engine

    not_refused : (why : Refusal) (v : TimelineOf X) → ◌≡◌ {A = Reply Outcome × TimelineOf X} (refused why, v) (answered (Full n), w') → ⊥
    not_refused why v q =
        let k = ap (λ (x : Reply Outcome × TimelineOf X). x.0) q in
        let z : ◌≡◌ {A = ℕ} 0 1 = cc in omega arith

    module _ (t : ℕ) (accepted : X.check m s w.engine ≡ Ok tt) (start : w.times.first ≤ t) (top : t ≤ steps_most) where
      abbrev bytes : List ℕ
      bytes = slot_of (X.slot_size m w.engine) (slot_for t w.times) w.store

      from_slot_lem : (x : Option X.State) → X.unpack m bytes (slot_step t w.times) w.engine ≡ x → Says t (slot_engine X M m w t) (from_slot P t w x)
      from_slot_lem None u q = absurd (not_refused _ w q)
      from_slot_lem (Some r) u q =
          let b = E.reads bytes (slot_step t w.times) w.engine r accepted u in
          let l : X.now r ≤ t = omega (arith, b.at_step, back_small w.times t (slot_for t w.times) refl start) in
          subst (λ c. StopsFull (table_of m s) c (M.config m w'.engine) t n (M.NextFull m s w'.engine))
          (b.holds ∙ ap (λ x. M.config m (M.shown m x w.engine)) (bytes_are X M m E.slots w t))
          (on_stops (X.slot_size m w.engine) t (with_engine P w r) b.accepted l top n w' q)

      back_stops : Says t (slot_engine X M m w t) (go_back P t w)
      unfolding go_back
      back_stops = from_slot_lem _ refl

      stay_stops : (e : X.State) → Says t e (stay P w)
      unfolding stay
      stay_stops e q =
          let k = ap (λ (x : Reply Outcome × TimelineOf X). x.0) q in
          let f : (X.advance m s 0 w.engine).0 ≡ Full n = cc in
          absurd (still w.engine accepted n f)

      to_stops : Says t (went_from X M m w t) (go_to P t w)
      unfolding go_to
      to_stops = pick_cases (eqb t (X.now w.engine)) _ _ (Says t (went_from X M m w t))
          (λ h. stay_stops _)
          (λ h. pick_cases (ltb t (X.now w.engine)) _ _ (Says t (went_from X M m w t))
          (λ l q. subst⁻¹ (λ e. Stops t n e w'.engine) (pick_true _ _ _ l) (back_stops q))
          (λ l q. subst⁻¹ (λ e. Stops t n e w'.engine) (pick_false _ _ _ l)
          (on_stops (X.slot_size m w.engine) t w accepted (ltb-false t (X.now w.engine) l) top n w' q)))

    accepted_call : (c : Result ⊤ Refusal) (x : Reply Outcome × TimelineOf X) → on_check P c w x ≡ (answered (Full n), w') → (c ≡ Ok tt) × (x ≡ (answered (Full n), w'))
    accepted_call (Err why) x q = absurd (not_refused why w q)
    accepted_call (Ok tt) x q = (refl, q)

    pub call_stops : (c : Call) → call_on X m s w c ≡ (answered (Full n), w') → Stops (aim_of X w c) n (went_from X M m w (aim_of X w c)) w'.engine
    unfolding call_on call
    call_stops c q =
        let a = accepted_call _ _ q in
        let p = call_says X m s (X.slot_size m w.engine) (target (X.now w.engine) c) w a.0 in
        let v = times_shape w.times (X.now w.engine) p.times (E.low w.engine p.fits) in
        to_stops (aim_of X w c) p.fits (omega arith) (omega (arith, p.top, v.first_in)) a.1
