-- Notes change nothing, and an engine whose store has notes meets the laws. Assumes nothing.
use Rattle.outcome.specs.declared.Refusal.{Refusal}
use Prim.Native.Nat.{ℕ, zero, suc, ◌+◌, ◌-◌, ◌*◌, ◌/◌, max}
use Rattle.std.specs.Prelude.{◌≡◌, Bool, true, false, ltb, eqb, Err, None, Ok, Option, Result, Some, ⊤}
use Rattle.std.proofs.Math.Path.{refl, ap}
use Rattle.std.proofs.Common.{◌∙◌, eq-eqb, ne_eqb}
use Rattle.notation.specs.Choice.{pick}
use Rattle.notation.proofs.Facts.Tests.{pick_true, pick_false}
use Rattle.store_bytes.specs.Model.{thin_by}
use Rattle.timeline_rule.specs.Model.Engine.{Ops}
use Rattle.timeline_rule.specs.declared.Call.{Call}
use Rattle.timeline_rule.specs.Model.Timeline.{TimelineOver, timeline_with, Reply, target, due, one_more, halved, thin, thinned, recorded, record_due, with_engine, ended, stride, turned, advance_to, said, gas_for, go_on, from_slot, slot_for, slot_step, go_back, stay, go_to, call_check, on_check, call}
use Rattle.timeline_laws.specs.Automaton.{Automaton}
use Rattle.timeline_laws.specs.Laws.{Laws}
use Rattle.timeline_laws.specs.Notes.{Noted, note_at, noting, bare}

pick_map : {A B : Type 0} (f : A → B) (b : Bool) (x y : A) → f (pick b x y) ≡ pick b (f x) (f y)
unfolding pick
pick_map f true x y = refl
pick_map f false x y = refl

-- ---- a timeline with notes, without them, is the timeline

module _ {Out : Type 0} (O : Ops Out) where
  thin_bare : (k : ℕ) (t : Noted O.Store O.State) → (thin (noting O) k t).bytes ≡ thin O k t.bytes
  unfolding thin_by
  thin_bare zero t = refl
  thin_bare (suc k) t = ap (O.move (2 * suc k) (suc k)) (thin_bare k t)

  recorded_bare : (w : TimelineOver (noting O)) → bare (recorded (noting O) w) ≡ recorded O (bare w)
  unfolding recorded thinned
  recorded_bare w =
      let n : ℕ = w.times.count + 1 in
      let t : Noted O.Store O.State = (noting O).save w.times.count w.engine w.store in
      pick_map bare (ltb w.times.most n) _ _
      ∙ (λ i. pick (ltb w.times.most n) (timeline_with O w.engine (thin_bare ((n - 1) / 2) t i) (halved (one_more w.times))) (timeline_with O w.engine t.bytes (one_more w.times)))

  due_bare : (w : TimelineOver (noting O)) → bare (record_due (noting O) w) ≡ record_due O (bare w)
  unfolding record_due
  due_bare w = pick_map bare (eqb (O.now w.engine) (due w.times)) (recorded (noting O) w) w
      ∙ ap (λ v. pick (eqb (O.now w.engine) (due w.times)) v (bare w)) (recorded_bare w)

  turned_bare : (t : ℕ) (w : TimelineOver (noting O)) → bare (turned (noting O) t w) ≡ turned O t (bare w)
  turned_bare t w = ap (λ v. with_engine O v (stride O t v).1) (due_bare w)

  abbrev bare_way : Out × TimelineOver (noting O) → Out × TimelineOver O
  bare_way r = (r.0, bare r.1)

  way_bare : (gas t : ℕ) (w : TimelineOver (noting O)) → bare_way (advance_to (noting O) gas t w) ≡ advance_to O gas t (bare w)
  unfolding advance_to
  way_bare zero t w = refl
  way_bare (suc gas) t w =
      let v : TimelineOver (noting O) = turned (noting O) t w in
      let on : bare_way (advance_to (noting O) gas t v) ≡ advance_to O gas t (turned O t (bare w)) = way_bare gas t v ∙ ap (advance_to O gas t) (turned_bare t w) in
      pick_map bare_way (ended t (O.now v.engine) (O.now w.engine)) ((stride (noting O) t (record_due (noting O) w)).0, v) (advance_to (noting O) gas t v)
      ∙ (λ i. pick (ended t (O.now (turned_bare t w i).engine) (O.now w.engine)) ((stride O t (due_bare w i)).0, turned_bare t w i) (on i))

  abbrev bare_reply : Reply Out × TimelineOver (noting O) → Reply Out × TimelineOver O
  bare_reply r = (r.0, bare r.1)

  on_bare : (t : ℕ) (w : TimelineOver (noting O)) → bare_reply (go_on (noting O) t w) ≡ go_on O t (bare w)
  unfolding go_on
  on_bare t w = ap (said O) (way_bare (gas_for (noting O) t w) t w)

  from_bare : (t : ℕ) (w : TimelineOver (noting O)) (x : Option O.State) → bare_reply (from_slot (noting O) t w x) ≡ from_slot O t (bare w) x
  from_bare t w None = refl
  from_bare t w (Some s) = on_bare t (with_engine (noting O) w s)

  to_bare : (t : ℕ) (w : TimelineOver (noting O)) → bare_reply (go_to (noting O) t w) ≡ go_to O t (bare w)
  unfolding go_to go_back stay
  to_bare t w =
      pick_map bare_reply (eqb t (O.now w.engine)) (stay (noting O) w) (pick (ltb t (O.now w.engine)) (go_back (noting O) t w) (go_on (noting O) t w))
      ∙ ap (pick (eqb t (O.now w.engine)) (stay O (bare w)))
      (pick_map bare_reply (ltb t (O.now w.engine)) (go_back (noting O) t w) (go_on (noting O) t w)
      ∙ (λ i. pick (ltb t (O.now w.engine))
      (from_bare t w (O.restore (slot_for t w.times) (slot_step t w.times) w.engine w.store.bytes) i) (on_bare t w i)))

  check_bare : (r : Result ⊤ Refusal) (w : TimelineOver (noting O)) (x : Reply Out × TimelineOver (noting O)) → bare_reply (on_check (noting O) r w x) ≡ on_check O r (bare w) (bare_reply x)
  check_bare (Err why) w x = refl
  check_bare (Ok tt) w x = refl

  pub call_bare : (w : TimelineOver (noting O)) (c : Call) → bare_reply (call (noting O) w c) ≡ call O (bare w) c
  unfolding call call_check
  call_bare w c =
      let t : ℕ = target (O.now w.engine) c in
      check_bare (call_check (noting O) w t) w (go_to (noting O) (max t w.times.first) w)
      ∙ ap (on_check O (call_check O (bare w) t) (bare w)) (to_bare (max t w.times.first) w)

-- ---- notes

module _ {A : Type 0} (i : ℕ) (x : Option A) (f : ℕ → Option A) where
  pub note_here : note_at i x f i ≡ x
  note_here = pick_true (eqb i i) x (f i) (eq-eqb i i refl)

  pub note_other : (j : ℕ) → ¬ (j ≡ i) → note_at i x f j ≡ f j
  note_other j n = pick_false (eqb j i) x (f j) (ne_eqb j i n)

-- the laws over a store with notes: a slot holds the engine that is noted for it
abbrev pub noted : {M : Automaton} {O : Ops M.Out} → Laws M O → Laws M (noting O)
noted {M} {O} E = record {
  Mean = E.Mean;
  mean = E.mean;
  config = E.config;
  next = E.next;
  NoRoom = E.NoRoom;
  Fits = E.Fits;
  Good = E.Good;
  Same = E.Same;
  Holds = λ t i u. E.Holds t.bytes i u × (t.note i ≡ Some u);
  fits_check = E.fits_check;
  fits_low = E.fits_low;
  fits_good = E.fits_good;
  now_is = E.now_is;
  next_good = E.next_good;
  next_is = E.next_is;
  next_stays = E.next_stays;
  no_room_runs = E.no_room_runs;
  advances = E.advances;
  advance_fits = E.advance_fits;
  save_slots = λ i s t f l. E.save_slots i s t.bytes f l;
  save_same = λ i s t f l. (E.save_same i s t.bytes f l, note_here i (Some s) t.note);
  save_other = λ i j s t u f l n h. (E.save_other i j s t.bytes u f l n h.0, note_other i (Some s) t.note j n ∙ h.1);
  move_slots = λ i k t l n. E.move_slots i k t.bytes l n;
  move_same = λ i k t u l n h. (E.move_same i k t.bytes u l n h.0, note_here k (t.note i) t.note ∙ h.1);
  move_other = λ i k j t u l n d h. (E.move_other i k j t.bytes u l n d h.0, note_other k (t.note i) t.note j d ∙ h.1);
  restores = λ i s t u f l h. E.restores i s t.bytes u f l h.0;
}
