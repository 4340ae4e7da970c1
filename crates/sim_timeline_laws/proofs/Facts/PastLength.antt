-- "Bytes .. past a call's final length stay": a timeline's call over the plain engine, through restoring and running. Assumes nothing.
use Rattle.outcome.specs.declared.Refusal.{Refusal}
use Rattle.std.specs.Prelude.{◌≡◌, refl, Bool, true, false, List, eqb, ltb, length, get_or, Err, None, Ok, Option, Result, Some, ⊤}
use Rattle.std.proofs.Common.{sym, ap, ◌∙◌, subst, arith, get_or-drop}
use Rattle.std.proofs.Math.Path.{subst⁻¹}
use Prim.Native.Nat.{ℕ, zero, suc, ◌+◌, ◌-◌, max}
use Rattle.std.proofs.Math.Seq.{paste}
use Rattle.std.proofs.lemmas.List.Edits.{drop-paste}
use Rattle.notation.proofs.Facts.Tests.{both_split, pick_cases}
use Rattle.machine.specs.declared.Machine.{Machine}
use Rattle.tape.specs.declared.Tape.{Tape}
use Rattle.tape.specs.Fits.{tape_fits}
use Rattle.tape.proofs.Facts.Fits.{fits_says}
use Rattle.tape.specs.Model.Moves.{held}
use Rattle.sim.specs.declared.Simulator.{Simulator}
use Rattle.sim.specs.Model.Engine.{Conf, task}
use Rattle.sim.specs.Model.Operations.{has1, has2, sim_fits}
use Rattle.sim_refines.specs.Lent.{PastStays, PastKept}
use Rattle.sim_refines.proofs.Facts.PastLength.{kept_all, ran_kept}
use Rattle.timeline_rule.specs.Model.Engine.{Ops}
use Rattle.timeline_rule.specs.declared.Call.{Call}
use Rattle.timeline_rule.specs.Model.Timeline.{Reply, TimelineOver, target, ended, turned, record_due, stride, advance_to, go_on, from_slot, go_back, stay, go_to, call_check, on_check, call}
use Rattle.timeline_rule.proofs.Facts.Loop.{record_engine}
use Rattle.timeline_rule.specs.Model.Kind.{TimelineOf, ops_for, call_on}
use Rattle.sim_slots.specs.Model.Advance.{ran_from, advance_of}
use Rattle.sim_slots.specs.Model.Slots.{sim_in, part0, part1, part2, holds_one, fill_if, filled, unpack_of}
use Rattle.sim_slots.proofs.Facts.FitCases.{fitted}
use Rattle.sim_slots.specs.Model.Kind.{plain_kind}

-- ---- over any engine: a property that an advance keeps, and that the engine before the call and one restored into it have, holds after the call

module _ {Out : Type 0} (O : Ops Out) (Q : O.State → Type 0) (on : (n : ℕ) (x : O.State) → Q x → Q (O.advance n x).1) where
  way_keeps : (gas t : ℕ) (w : TimelineOver O) → Q w.engine → Q (advance_to O gas t w).1.engine
  unfolding advance_to
  way_keeps zero t w q = q
  way_keeps (suc gas) t w q = pick_cases (ended t (O.now v.engine) (O.now w.engine)) ((stride O t (record_due O w)).0, v) (advance_to O gas t v) (λ r. Q r.1.engine)
      (λ e. there) (λ e. way_keeps gas t v there)
    where
      v : TimelineOver O
      v = turned O t w

      there : Q (turned O t w).engine
      there = on _ _ (subst⁻¹ Q (record_engine O w) q)

  module _ (w : TimelineOver O) (q : Q w.engine) (back : (i p : ℕ) (r : O.State) → O.restore i p w.engine w.store ≡ Some r → Q r) where
    from_keeps : (t i p : ℕ) (x : Option O.State) → O.restore i p w.engine w.store ≡ x → Q (from_slot O t w x).1.engine
    unfolding go_on
    from_keeps t i p None e = q
    from_keeps t i p (Some r) e = way_keeps _ t _ (back i p r e)

    to_keeps : (t : ℕ) → Q (go_to O t w).1.engine
    unfolding go_to stay go_back go_on
    to_keeps t = pick_cases {A = Reply Out × TimelineOver O} (eqb t (O.now w.engine)) _ _ (λ r. Q r.1.engine)
        (λ e. on 0 w.engine q)
        (λ e. pick_cases {A = Reply Out × TimelineOver O} (ltb t (O.now w.engine)) (go_back O t w) (go_on O t w) (λ r. Q r.1.engine)
        (λ l. from_keeps t _ _ _ refl) (λ l. way_keeps _ t w q))

    call_keeps : (c : Call) → Q (call O w c).1.engine
    unfolding call
    call_keeps c = by (call_check O w t)
      where
        t : ℕ
        t = target (O.now w.engine) c

        by : (r : Result ⊤ Refusal) → Q (on_check O r w (go_to O (max t w.times.first) w)).1.engine
        by (Err why) = q
        by (Ok tt) = to_keeps (max t w.times.first)

-- ---- an advance, and a slot that is read into the buffers

advance_kept : (c0 c1 c2 : List ℕ) (m : Machine) (s : List ℕ) (n : ℕ) (σ : Conf) → PastKept c0 c1 c2 σ → PastKept c0 c1 c2 (advance_of m s n σ).1
unfolding advance_of ran_from
advance_kept c0 c1 c2 m s n σ p = ran_kept c0 c1 c2 m σ p (task m s false None) n

module _ (k : ℕ) (t : Tape) (part c : List ℕ) where
  pour_stays : tape_fits k t part ≡ true → PastStays c (held t (paste c 0 part t.len))
  pour_stays f i l =
      let e : 0 + t.len + (i - t.len) ≡ i = omega arith in
      ap (λ j. get_or (paste c 0 part t.len) j 0) (sym e)
      ∙ sym (get_or-drop (0 + t.len) (paste c 0 part t.len) (i - t.len) 0)
      ∙ ap (λ x. get_or x (i - t.len) 0) (drop-paste c 0 part t.len (omega arith) (fits_says k t part f).most)
      ∙ get_or-drop (0 + t.len) c (i - t.len) 0
      ∙ ap (λ j. get_or c j 0) e

  fill_stays : (b : Bool) → (b ≡ true → tape_fits k t part ≡ true) → PastStays c (held t (fill_if b t part c))
  unfolding fill_if
  fill_stays b f = pick_cases b (paste c 0 part t.len) c (λ d. PastStays c (held t d)) (λ e. pour_stays (f e)) (λ e i l. refl)

module _ (m : Machine) (b : List ℕ) (v : Simulator) (c0 c1 c2 : List ℕ) where
  filled_kept : sim_fits m v (part0 (length c0) b) (part1 m (length c0) (length c1) b) (part2 m (length c0) (length c1) (length c2) b) ≡ true
      → PastKept c0 c1 c2 (filled m b v c0 c1 c2)
  unfolding filled
  filled_kept h =
      let f = fitted m v _ _ _ h in
      record {
        past0 = pour_stays m.symbols v.t0 _ c0 f.fits0;
        past1 = fill_stays m.symbols v.t1 _ c1 (has1 m) f.fits1;
        past2 = fill_stays m.symbols v.t2 _ c2 (has2 m) f.fits2;
      }

unpack_kept : (m : Machine) (b : List ℕ) (step : ℕ) (σ r : Conf) → unpack_of m b step σ ≡ Some r → PastKept σ.c0 σ.c1 σ.c2 r
unfolding unpack_of holds_one
unpack_kept m b step σ r =
    let v : Simulator = sim_in m b σ.sim in
    pick_cases (holds_one m b step v (length σ.c0) (length σ.c1) (length σ.c2)) (Some (filled m b v σ.c0 σ.c1 σ.c2)) None
    (λ (x : Option Conf). x ≡ Some r → PastKept σ.c0 σ.c1 σ.c2 r)
    (λ h e.
    let is : filled m b (sim_in m b σ.sim) σ.c0 σ.c1 σ.c2 ≡ r = cc in
    subst (PastKept σ.c0 σ.c1 σ.c2) is (filled_kept m b (sim_in m b σ.sim) σ.c0 σ.c1 σ.c2 (both_split h).1))
    (λ h e. let z : ◌≡◌ {A = ℕ} 0 1 = cc in absurd (omega arith))

-- ---- a call

pub call_past : (m : Machine) (s : List ℕ) (w : TimelineOf plain_kind) (c : Call) → PastKept w.engine.c0 w.engine.c1 w.engine.c2 (call_on plain_kind m s w c).1.engine
unfolding call_on
call_past m s w c = call_keeps (ops_for plain_kind m s w.engine) (PastKept w.engine.c0 w.engine.c1 w.engine.c2) (advance_kept _ _ _ m s) w (kept_all w.engine)
    (λ i p r e. unpack_kept m _ p w.engine r e) c
