-- One call on a timeline that meets the invariant: its checks, its answer, and how it ends. Assumes nothing.
use Prim.Native.Nat.{ℕ, ◌+◌, ◌-◌, ◌/◌, ◌≤◌, ◌<◌, max}
use Rattle.std.specs.Prelude.{◌≡◌, refl, leb, eqb, Ok, Some}
use Rattle.std.proofs.Common.{sym, ◌∙◌, ap, zero-add, mul-le-mul_right, div-mul-le_self, arith}
use Rattle.std.proofs.Math.Path.{subst}
use Rattle.std.proofs.Math.Bool.{true}
use Rattle.std.proofs.Math.Dec.{ltb}
use borrow.Author.Tests.{ltb-true, ltb-false, eqb-true, lt-ltb, le-leb}
use Rattle.notation.specs.Choice.{pick}
use Rattle.notation.proofs.Facts.Tests.{both_true, pick_cases}
use Rattle.notation.specs.Limits.{steps_most, interval_most}
use Rattle.machine.specs.Model.Check.{within, demand}
use Rattle.outcome.specs.declared.Refusal.TheVariants as Why
use Rattle.timeline_rule.specs.Model.Engine.{Ops}
use Rattle.timeline_rule.specs.declared.Call.{Call}
use Rattle.timeline_rule.specs.Model.Timeline.{TimelineOver, Reply, answered, target, due, times_ok, with_engine, gas_for, advance_to, go_on, slot_for, slot_step, from_slot, go_back, stay, go_to, call_check, on_check, call}
use Rattle.timeline_laws.specs.Automaton.{Automaton}
use Rattle.timeline_laws.specs.Laws.{Laws, Advance, went, full}
use Rattle.timeline_laws.proofs.Facts.Steps.{base, at}
use Rattle.timeline_laws.proofs.Facts.Invariant.{Slot, Inv, now_at, slot_now}
use Rattle.timeline_laws.proofs.Facts.Loop.{Way, there, go_on_lem, from_at, gone}

within_is : (a b x : ℕ) → a ≤ x → x ≤ b → within a b x ≡ true
within_is a b x l h = both_true (le-leb a x l) (le-leb x b h)

module _ {M : Automaton} {O : Ops M.Out} (E : Laws M O) (x : E.Mean) (good : E.Good x) where
  -- an accepted call to t: its answer, and how it ended
  pub record Taken (t : ℕ) (r : Reply M.Out × TimelineOver O) : Type 0 where
    pub out : M.Out
    pub says : r.0 ≡ answered out
    pub way : Way E x good t out r.1

  times_ok_holds : (w : TimelineOver O) (p : ℕ) → Inv E x good w p → times_ok w.times p ≡ true
  unfolding times_ok
  times_ok_holds w p i =
      both_true (within_is 1 512 w.times.most (omega arith) (omega arith))
      (both_true (within_is 1 interval_most w.times.every (omega arith) (omega arith))
      (both_true (within_is 1 w.times.most w.times.count (omega arith) (omega arith))
      (within_is w.times.first (due w.times) p (omega (arith, i.tidy.first_is, i.engine_at.low)) i.behind)))

  -- a call never gets refusals 1 to 12, 14 and 15
  pub call_is : (w : TimelineOver O) (p : ℕ) (c : Call) → Inv E x good w p
      → call O w c ≡ on_check O (demand (leb (target p c) steps_most) Why.StepLimit (Ok tt)) w (go_to O (max (target p c) (base E x)) w)
  unfolding call call_check pick
  call_is w p c i = rw (E.fits_check w.engine i.engine_at.fits, now_at E x good w.engine p i.engine_at, times_ok_holds w p i, enough, upto)
    where
      enough : ltb w.times.most (O.slots w.store) ≡ true
      enough = lt-ltb w.times.most (O.slots w.store) i.tidy.room_for_holds

      upto : max (target p c) w.times.first ≡ max (target p c) (base E x)
      upto = ap (max (target p c)) i.tidy.first_is

  stays : (w : TimelineOver O) (p : ℕ) → Inv E x good w p → Taken p (stay O w)
  unfolding stay
  stays w p i = record { out = (O.advance 0 w.engine).0; says = refl; way = cases (E.advances 0 w.engine i.engine_at.fits small) }
    where
      small : O.now w.engine + 0 ≤ steps_most
      small = omega (arith, now_at E x good w.engine p i.engine_at, i.engine_at.small)

      cases : Advance M E.Mean E.config E.next E.NoRoom 0 (E.mean w.engine) (O.advance 0 w.engine).0 (E.mean (O.advance 0 w.engine).1)
          → Way E x good p (O.advance 0 w.engine).0 (with_engine O w (O.advance 0 w.engine).1)
      cases (went r y z) = there i.engine_at.room
          (gone E x good w p i (O.advance 0 w.engine).1 p (E.advance_fits 0 w.engine i.engine_at.fits small) i.engine_at.low
          (y ∙ (from_at E x good 0 p (E.mean w.engine) i.engine_at.low i.engine_at.here ∙ ap (at E x) (zero-add p))) i.engine_at.room i.engine_at.small i.behind) z
      cases (full j g r z y f d) = absurd (omega arith)

  goes_on : (w : TimelineOver O) (p t : ℕ) → Inv E x good w p → p ≤ t → t ≤ steps_most → Taken t (go_on O t w)
  unfolding go_on
  goes_on w p t i l h = record {
    out = (advance_to O (gas_for O t w) t w).0;
    says = refl;
    way = go_on_lem E x good (gas_for O t w) t w p i l h (omega (arith, now_at E x good w.engine p i.engine_at));
  }

  -- the slot to go back to is not past the target
  slot_low : (w : TimelineOver O) (p t : ℕ) → Inv E x good w p → base E x ≤ t → slot_step t w.times ≤ t
  slot_low w p t i b = omega (arith, mul-le-mul_right w.times.every lower, div-mul-le_self (t - w.times.first) w.times.every, i.tidy.first_is)
    where
      lower : slot_for t w.times ≤ (t - w.times.first) / w.times.every
      lower = omega arith

  goes_back : (w : TimelineOver O) (p t : ℕ) → Inv E x good w p → base E x ≤ t → t < p → Taken t (go_back O t w)
  unfolding go_back
  goes_back w p t i b l = go (E.restores n w.engine w.store slot.engine i.engine_at.fits (omega (arith, i.count_high, i.tidy.count_low, i.tidy.room_for_holds)) slot.kept)
    where
      n : ℕ
      n = slot_for t w.times

      slot : Slot E x good w.store w.times n
      slot = i.tidy.slot n (omega (arith, i.tidy.count_low))

      go : (s : O.State) × (O.restore n (O.now slot.engine) w.engine w.store ≡ Some s) × E.Same s slot.engine × (E.mean s ≡ E.mean slot.engine) × E.Fits s
          → Taken t (from_slot O t w (O.restore n (slot_step t w.times) w.engine w.store))
      go r = rw is (goes_on (with_engine O w r.0) (slot_step t w.times) t inv low (omega (arith, i.engine_at.small)))
        where
          low : slot_step t w.times ≤ t
          low = slot_low w p t i b

          is : O.restore n (slot_step t w.times) w.engine w.store ≡ Some r.0
          is = ap (λ a. O.restore n a w.engine w.store) (sym (slot_now E x good w.store w.times n slot)) ∙ r.1

          inv : Inv E x good (with_engine O w r.0) (slot_step t w.times)
          inv = record {
            engine_at = record {
              fits = r.4;
              low = omega (arith, i.tidy.first_is);
              here = r.3 ∙ slot.means;
              exactly = slot.step;
              room = λ j a h. i.engine_at.room j a (omega (arith, low));
              small = omega (arith, low, i.engine_at.small);
            };
            tidy = i.tidy;
            count_high = i.count_high;
            behind = omega (arith, mul-le-mul_right w.times.every (below i));
          }
            where
              below : Inv E x good w p → n ≤ w.times.count
              below i = omega (arith, i.tidy.count_low)

  pub taken : (w : TimelineOver O) (p t : ℕ) → Inv E x good w p → base E x ≤ t → t ≤ steps_most → Taken t (go_to O t w)
  unfolding go_to
  taken w p t i b l = pick_cases (eqb t (O.now w.engine)) (stay O w) (pick (ltb t (O.now w.engine)) (go_back O t w) (go_on O t w)) (Taken t)
      (λ q. subst (λ n. Taken n (stay O w)) (sym (eqb-true t (O.now w.engine) q ∙ now)) (stays w p i))
      (λ q. pick_cases (ltb t (O.now w.engine)) (go_back O t w) (go_on O t w) (Taken t)
      (λ r. goes_back w p t i b (omega (arith, ltb-true t (O.now w.engine) r, now)))
      (λ r. goes_on w p t i (omega (arith, ltb-false t (O.now w.engine) r, now)) l))
    where
      now : O.now w.engine ≡ p
      now = now_at E x good w.engine p i.engine_at
