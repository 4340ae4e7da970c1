-- The invariant between calls, and that saving and thinning keep it. Assumes nothing.
use Prim.Native.Nat.{ℕ, zero, suc, ◌+◌, ◌-◌, ◌*◌, ◌/◌, ◌≤◌, ◌<◌, ◌^◌}
use Rattle.std.specs.Prelude.{◌≡◌, false, ltb}
use Rattle.std.proofs.Math.Path.{refl, subst}
use Rattle.std.proofs.Common.{sym, ◌∙◌, ap, mul-le-mul_right}
use Rattle.std.proofs.Math.Bool.{true}
use Rattle.std.proofs.Math.Decide.{ℕ_discrete}
use native.Mathlib.Omega.{arith}
use Rattle.std.proofs.Math.Dec.{eqb}
use borrow.Author.Tests.{ltb-true, ltb-false, eqb-true, eqb-false}
use Rattle.notation.proofs.Facts.Tests.{pick_cases}
use Rattle.notation.specs.Limits.{steps_most}
use Rattle.store_bytes.specs.Model.{thin_by}
use Rattle.timeline_rule.specs.Model.Engine.{Ops}
use Rattle.timeline_rule.specs.declared.Times.{Times}
use Rattle.timeline_rule.specs.Model.Timeline.{TimelineOver, timeline_with, due, one_more, halved, thin, thinned, recorded, record_due}
use Rattle.timeline_laws.specs.Automaton.{Automaton}
use Rattle.timeline_laws.specs.Laws.{Laws}
use Rattle.timeline_laws.proofs.Facts.Steps.{base, at, Room, pos, Settled, settle, pos_of}

module _ {M : Automaton} {O : Ops M.Out} (E : Laws M O) where
  pub thin_slots : (k : ℕ) (t : O.Store) → 2 * k < O.slots t → O.slots (thin O k t) ≡ O.slots t
  unfolding thin_by
  thin_slots zero t l = refl
  thin_slots (suc k) t l =
      let i : O.slots (thin O k t) ≡ O.slots t = thin_slots k t (omega arith) in
      E.move_slots (2 * suc k) (suc k) (thin O k t) (omega arith) (omega arith) ∙ i

  thin_above : (k : ℕ) (t : O.Store) (i : ℕ) (u : O.State) → 2 * k < O.slots t → k < i → E.Holds t i u → E.Holds (thin O k t) i u
  unfolding thin_by
  thin_above zero t i u l g h = h
  thin_above (suc k) t i u l g h =
      let n : O.slots (thin O k t) ≡ O.slots t = thin_slots k t (omega arith) in
      E.move_other (2 * suc k) (suc k) i (thin O k t) u (omega arith) (omega arith) (omega arith) (thin_above k t i u (omega arith) (omega arith) h)

  pub thin_below : (k : ℕ) (t : O.Store) (i : ℕ) (u : O.State) → i ≤ k → 2 * k < O.slots t → E.Holds t (2 * i) u → E.Holds (thin O k t) i u
  unfolding thin_by
  thin_below zero t i u l s h = subst (λ n. E.Holds t n u) zeros h
    where
      zeros : 2 * i ≡ i
      zeros = omega arith
  thin_below (suc k) t i u l s h = go (ℕ_discrete i (suc k)) (thin_slots k t (omega arith)) (λ l. thin_below k t i u l (omega arith) h)
    where
      go : Dec (i ≡ suc k) → O.slots (thin O k t) ≡ O.slots t → (i ≤ k → E.Holds (thin O k t) i u) → E.Holds (O.move (2 * suc k) (suc k) (thin O k t)) i u
      go (yes q) n f = subst (λ n. E.Holds (O.move (2 * suc k) (suc k) (thin O k t)) n u) (sym q)
          (E.move_same (2 * suc k) (suc k) (thin O k t) u (omega arith) (omega arith)
          (thin_above k t (2 * suc k) u (omega arith) (omega arith) (subst (λ n. E.Holds t (2 * n) u) q h)))
      go (no q) n f = E.move_other (2 * suc k) (suc k) i (thin O k t) u (omega arith) (omega arith) q (f (omega arith))

module _ {M : Automaton} {O : Ops M.Out} (E : Laws M O) (x : E.Mean) (good : E.Good x) where
  -- slot i holds an engine of the meaning at the slot's step, which is i intervals after the start
  pub record Slot (t : O.Store) (v : Times) (i : ℕ) : Type 0 where
    pub engine : O.State
    pub kept : E.Holds t i engine
    pub means : E.mean engine ≡ at E x (v.first + i * v.every)
    pub step : pos E x (v.first + i * v.every) ≡ v.first + i * v.every

  -- the invariant of the timeline's value and the store, without the engine
  pub record Tidy (t : O.Store) (v : Times) : Type 0 where
    pub most_low : 1 ≤ v.most
    pub most_high : v.most ≤ 512
    pub room_for_holds : v.most < O.slots t
    pub first_is : v.first ≡ base E x
    pub count_low : 1 ≤ v.count
    pub every_low : 1 ≤ v.every
    pub every_high : v.every ≤ 2 ^ 63
    pub last_low : due v ≤ steps_most + v.every  -- the last slot is at most at the steps_most
    pub slot : (i : ℕ) → i < v.count → Slot t v i

  -- the engine is at step p
  pub record EngineAt (s : O.State) (p : ℕ) : Type 0 where
    pub fits : E.Fits s
    pub low : base E x ≤ p
    pub here : E.mean s ≡ at E x p
    pub exactly : pos E x p ≡ p
    pub room : Room E x p
    pub small : p ≤ steps_most

  pub record Inv (w : TimelineOver O) (p : ℕ) : Type 0 where
    pub engine_at : EngineAt w.engine p
    pub tidy : Tidy w.store w.times
    pub count_high : w.times.count ≤ w.times.most
    pub behind : p ≤ due w.times

  pub now_at : (s : O.State) (p : ℕ) → EngineAt s p → O.now s ≡ p
  unfolding pos
  now_at s p i = E.now_is s ∙ (ap (λ y. M.steps (E.config y)) i.here ∙ i.exactly)

  -- the engine of a slot is at the slot's step
  pub slot_now : (t : O.Store) (v : Times) (i : ℕ) (z : Slot t v i) → O.now z.engine ≡ v.first + i * v.every
  unfolding pos
  slot_now t v i z = E.now_is z.engine ∙ (ap (λ y. M.steps (E.config y)) z.means ∙ z.step)

  -- an engine whose meaning is that at step k, where all steps before k had room
  pub arrive : (s : O.State) (k : ℕ) → E.Fits s → base E x ≤ k → E.mean s ≡ at E x k → Room E x k → k ≤ steps_most
      → EngineAt s (pos E x k)
  arrive s k f b h r l =
      let q : Settled E x good k = settle E x good k b r in
      record {
        fits = f;
        low = q.low;
        here = h ∙ sym q.same;
        exactly = pos_of E x (pos E x k) k q.same;
        room = λ j a l. r j a (omega (arith, q.high));
        small = omega (arith, q.high);
      }

  -- saving at the step that is due, and thinning, keep the invariant; the next slot is then due later
  pub record Recorded (v : TimelineOver O) (p : ℕ) : Type 0 where
    pub inv : Inv v p
    pub later : p < due v.times

  slot_saved : (s : O.State) (t : O.Store) (v : Times) (p : ℕ) → EngineAt s p → Tidy t v → v.count ≤ v.most → p ≡ due v
      → (i : ℕ) → i < v.count + 1 → Slot (O.save v.count s t) (one_more v) i
  slot_saved s t v p a b c q i l = go (ℕ_discrete i v.count)
    where
      go : Dec (i ≡ v.count) → Slot (O.save v.count s t) (one_more v) i
      go (yes r) = rw r (record {
        engine = s;
        kept = E.save_same v.count s t a.fits (omega (arith, b.room_for_holds));
        means = a.here ∙ ap (at E x) q;
        step = subst (λ n. pos E x n ≡ n) q a.exactly;
      })
      go (no r) =
          let old : Slot t v i = b.slot i (omega arith) in
          record {
            engine = old.engine;
            kept = E.save_other v.count i s t old.engine a.fits (omega (arith, b.room_for_holds)) r old.kept;
            means = old.means;
            step = old.step;
          }

  saved : (s : O.State) (t : O.Store) (v : Times) (p : ℕ) → EngineAt s p → Tidy t v → v.count ≤ v.most → p ≡ due v
      → Tidy (O.save v.count s t) (one_more v)
  saved s t v p a b c q = record {
    most_low = b.most_low;
    most_high = b.most_high;
    room_for_holds = rw (E.save_slots v.count s t a.fits (omega (arith, b.room_for_holds))) b.room_for_holds;
    first_is = b.first_is;
    count_low = omega arith;
    every_low = b.every_low;
    every_high = b.every_high;
    last_low = omega (arith, a.small);
    slot = slot_saved s t v p a b c q;
  }

  slot_thinned : (t : O.Store) (v : Times) → Tidy t v → v.count ≡ v.most + 1
      → (i : ℕ) → i < (v.count + 1) / 2 → Slot (thin O ((v.count - 1) / 2) t) (halved v) i
  slot_thinned t v b c i l =
      let twice : v.first + 2 * i * v.every ≡ v.first + i * (2 * v.every) = omega arith in
      let old : Slot t v (2 * i) = b.slot (2 * i) (omega arith) in
      record {
        engine = old.engine;
        kept = thin_below E ((v.count - 1) / 2) t i old.engine (omega arith) (omega (arith, b.room_for_holds)) old.kept;
        means = old.means ∙ ap (at E x) twice;
        step = subst (λ n. pos E x n ≡ n) twice old.step;
      }

  thins : (t : O.Store) (v : Times) (p : ℕ) → Tidy t v → v.count ≡ v.most + 1 → p + v.every ≡ due v → p ≤ steps_most
      → Tidy (thin O ((v.count - 1) / 2) t) (halved v)
  thins t v p b c q l = record {
    most_low = b.most_low;
    most_high = b.most_high;
    room_for_holds = rw (thin_slots E ((v.count - 1) / 2) t (omega (arith, b.room_for_holds))) b.room_for_holds;
    first_is = b.first_is;
    count_low = omega arith;
    every_low = omega (arith, b.every_low);
    every_high = omega (arith, mul-le-mul_right v.every (two v b c));
    last_low = omega (arith, mul-le-mul_right v.every (evens v));
    slot = slot_thinned t v b c;
  }
    where
      two : (v : Times) → Tidy t v → v.count ≡ v.most + 1 → 2 ≤ v.count
      two v b c = omega (arith, b.most_low)

      evens : (v : Times) → 2 * ((v.count + 1) / 2) ≤ v.count + 1
      evens v = omega arith

  record_now : (w : TimelineOver O) (p : ℕ) → Inv w p → p ≡ due w.times → Recorded (recorded O w) p
  unfolding recorded thinned
  record_now w p i q = pick_cases (ltb w.times.most (w.times.count + 1)) (timeline_with O w.engine (thin O ((w.times.count + 1 - 1) / 2) t') (halved (one_more w.times)))
      (timeline_with O w.engine t' (one_more w.times)) (λ v. Recorded v p) thins_too only_more
    where
      t' : O.Store
      t' = O.save w.times.count w.engine w.store

      doubled : w.times.count + 1 ≤ 2 * ((w.times.count + 1 + 1) / 2)
      doubled = omega arith

      b' : Tidy t' (one_more w.times)
      b' = saved w.engine w.store w.times p i.engine_at i.tidy i.count_high q

      thins_too : ltb w.times.most (w.times.count + 1) ≡ true → Recorded (timeline_with O w.engine (thin O ((w.times.count + 1 - 1) / 2) t') (halved (one_more w.times))) p
      thins_too r = record {
        inv = record {
          engine_at = i.engine_at;
          tidy = thins t' (one_more w.times) p b' (omega (arith, ltb-true)) (omega arith) i.engine_at.small;
          count_high = omega (arith, ltb-true, i.tidy.most_low);
          behind = omega (arith, mul-le-mul_right w.times.every doubled);
        };
        later = omega (arith, mul-le-mul_right w.times.every doubled, i.tidy.every_low);
      }

      only_more : ltb w.times.most (w.times.count + 1) ≡ false → Recorded (timeline_with O w.engine t' (one_more w.times)) p
      only_more r = record {
        inv = record { engine_at = i.engine_at; tidy = b'; count_high = omega (arith, ltb-false); behind = omega arith };
        later = omega (arith, i.tidy.every_low);
      }

  pub record_due_lem : (w : TimelineOver O) (p : ℕ) → Inv w p → Recorded (record_due O w) p
  unfolding record_due
  record_due_lem w p i = pick_cases (eqb (O.now w.engine) (due w.times)) (recorded O w) w (λ v. Recorded v p) at_once not_yet
    where
      at_once : eqb (O.now w.engine) (due w.times) ≡ true → Recorded (recorded O w) p
      at_once q = record_now w p i (sym (now_at w.engine p i.engine_at) ∙ eqb-true (O.now w.engine) (due w.times) q)

      not_yet : eqb (O.now w.engine) (due w.times) ≡ false → Recorded w p
      not_yet q = record { inv = i; later = later }
        where
          ne : ¬ (O.now w.engine ≡ due w.times)
          ne = eqb-false (O.now w.engine) (due w.times) q

          later : p < due w.times
          later = omega (arith, ne, now_at w.engine p i.engine_at, i.behind)
