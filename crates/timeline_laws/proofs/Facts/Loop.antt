-- The loop that goes on to a target. Assumes nothing.
use Prim.Native.Nat.{ℕ, zero, suc, ◌+◌, ◌-◌, ◌≤◌, ◌<◌}
use Rattle.std.specs.Prelude.{◌≡◌, ◌⊎◌}
use Rattle.std.proofs.Common.{sym, ◌∙◌, ap, subst, inl, inr, arith}
use Rattle.std.proofs.Math.Decide.{dec_lt, ℕ_discrete}
use Rattle.notation.specs.Choice.{pick}
use Rattle.notation.proofs.Facts.Tests.{pick_cases}
use Rattle.notation.specs.Limits.{steps_most}
use Rattle.timeline_rule.specs.Model.Engine.{Ops}
use Rattle.timeline_rule.proofs.Facts.Loop.{Done, done, not_done}
use Rattle.timeline_rule.specs.Model.Timeline.{TimelineOver, due, record_due, with_engine, stop_at, stride, turned, advance_to}
use Rattle.timeline_laws.specs.Automaton.{Automaton, iterate}
use Rattle.timeline_laws.specs.Laws.{Laws, Advance, went, full}
use Rattle.timeline_laws.proofs.Facts.Steps.{base, at, at_add, Room, pos, settle, exact, pos_no_room, climb_to, good_at, halted_to, halted_room, pos_of, pos_is}
use Rattle.timeline_laws.proofs.Facts.Invariant.{Inv, now_at, arrive, record_due_lem}

module _ {M : Automaton} {O : Ops M.Out} (E : Laws M O) (x : E.Mean) (good : E.Good x) where
  -- How the loop to t ends: at t or at the halt before it, or at a full step
  pub data Way (t : ℕ) (o : M.Out) (w : TimelineOver O) : Type 0 where
    there : Room E x t → Inv E x good w (pos E x t) → M.Verdict (E.config (E.mean w.engine)) o → Way t o w
    stuck : (j : ℕ) → j < t → E.NoRoom (at E x j) → Inv E x good w j → M.Full o → M.counted o ≡ j → Way t o w

  -- n steps from p
  pub from_at : (n p : ℕ) (y : E.Mean) → base E x ≤ p → y ≡ at E x p → iterate E.next n y ≡ at E x (n + p)
  from_at n p y b q = ap (iterate E.next n) q ∙ at_add E x n p b

  room_more : (p n : ℕ) (y : E.Mean) → base E x ≤ p → y ≡ at E x p → Room E x p → ((j : ℕ) → j < n → ¬ E.NoRoom (iterate E.next j y)) → Room E x (n + p)
  room_more p n y b q r f j a l = go (dec_lt j p)
    where
      back : ¬ (j < p) → j - p + p ≡ j
      back h = omega arith

      go : Dec (j < p) → ¬ E.NoRoom (at E x j)
      go (yes h) = r j a h
      go (no h) = λ k. f (j - p) (omega arith) (subst E.NoRoom (sym (from_at (j - p) p y b q ∙ ap (at E x) (back h))) k)

  -- How one advance ends
  data OneAdvance (t p : ℕ) (o : M.Out) (w : TimelineOver O) : Type 0 where
    on : (k : ℕ) → p ≤ k → k ≤ t → (p < t → p < k) → Room E x k → Inv E x good w (pos E x k)
        → M.Verdict (E.config (E.mean w.engine)) o → OneAdvance t p o w
    off : (k : ℕ) → p ≤ k → k < t → E.NoRoom (at E x k) → Inv E x good w k → M.Full o → M.counted o ≡ k → OneAdvance t p o w

  -- the invariant of a timeline whose engine has gone on to k
  pub gone : (v : TimelineOver O) (p : ℕ) → Inv E x good v p → (s : O.State) (k : ℕ) → E.Fits s → base E x ≤ k → E.mean s ≡ at E x k → Room E x k → k ≤ steps_most
      → k ≤ due v.times → Inv E x good (with_engine O v s) (pos E x k)
  gone v p i s k f b h r l d = record {
    engine_at = arrive E x good s k f b h r l;
    tidy = i.tidy;
    count_high = i.count_high;
    behind = omega (arith, (settle E x good k b r).high);
  }

  one_advance : (t : ℕ) (v : TimelineOver O) (p : ℕ) → Inv E x good v p → p < due v.times → p ≤ t → t ≤ steps_most
      → OneAdvance t p (stride O t v).0 (with_engine O v (stride O t v).1)
  one_advance t v p i d l h = go (stop_at O t v - O.now v.engine) now (omega (arith, now)) (omega (arith, now)) (λ l. omega (arith, now))
    where
      now : O.now v.engine ≡ p
      now = now_at E x good v.engine p i.engine_at

      here : E.mean v.engine ≡ at E x p
      here = i.engine_at.here

      low : base E x ≤ p
      low = i.engine_at.low

      go : (n : ℕ) → O.now v.engine ≡ p → n + p ≤ t → n + p ≤ due v.times → (p < t → 0 < n)
          → OneAdvance t p (O.advance n v.engine).0 (with_engine O v (O.advance n v.engine).1)
      go n q a b c = cases (E.advances n v.engine i.engine_at.fits (omega arith))
        where
          fits : E.Fits (O.advance n v.engine).1
          fits = E.advance_fits n v.engine i.engine_at.fits (omega arith)

          cases : Advance M E.Mean E.config E.next E.NoRoom n (E.mean v.engine) (O.advance n v.engine).0 (E.mean (O.advance n v.engine).1)
              → OneAdvance t p (O.advance n v.engine).0 (with_engine O v (O.advance n v.engine).1)
          cases (went r y z) =
              let room : Room E x (n + p) = room_more p n (E.mean v.engine) low here i.engine_at.room r in
              on (n + p) (omega arith) a (λ l. omega (arith, c l)) room
              (gone v p i (O.advance n v.engine).1 (n + p) fits (omega (arith, low)) (y ∙ from_at n p (E.mean v.engine) low here) room (omega arith) b) z
          cases (full j g r z y f d) =
              let room : Room E x (j + p) = room_more p j (E.mean v.engine) low here i.engine_at.room r in
              let from : base E x ≤ j + p = omega (arith, low) in
              let nr : E.NoRoom (at E x (j + p)) = subst E.NoRoom (from_at j p (E.mean v.engine) low here) z in
              let there : E.mean (O.advance n v.engine).1 ≡ at E x (j + p) = y ∙ from_at j p (E.mean v.engine) low here in
              let count : M.counted (O.advance n v.engine).0 ≡ j + p =
              d ∙ (ap (λ m. M.steps (E.config m)) there ∙ (sym (pos_is E x (j + p)) ∙ pos_no_room E x good (j + p) from room nr)) in
              off (j + p) (omega arith) (omega arith) nr
              (subst (Inv E x good (with_engine O v (O.advance n v.engine).1)) (pos_no_room E x good (j + p) from room nr)
              (gone v p i (O.advance n v.engine).1 (j + p) fits from there room (omega arith) (omega arith))) f count

  -- an advance after which the loop ends
  ends : (t p : ℕ) (o : M.Out) (w : TimelineOver O) → base E x ≤ p → p ≤ t → OneAdvance t p o w → (t ≤ O.now w.engine) ⊎ (O.now w.engine ≡ p) → Way t o w
  ends t p o w e l (off k a b n i f d) c = stuck k b n i f d
  ends t p o w e l (on k a b g r i z) c = go (ℕ_discrete k t)
    where
      low : base E x ≤ k
      low = omega arith

      now : O.now w.engine ≡ pos E x k
      now = now_at E x good w.engine (pos E x k) i.engine_at

      halt : ¬ (k ≡ t) → (t ≤ O.now w.engine) ⊎ (O.now w.engine ≡ p) → (pos E x k ≡ k) ⊎ M.Halted (E.config (at E x k)) → M.Halted (E.config (at E x k))
      halt q c (inr y) = y
      halt q (inl y) (inl u) = absurd (omega (arith, now))
      halt q (inr y) (inl u) = absurd (omega (arith, now, g (omega arith)))

      go : Dec (k ≡ t) → Way t o w
      go (yes q) = there (subst (Room E x) q r) (subst (λ n. Inv E x good w (pos E x n)) q i) z
      go (no q) =
          let y : M.Halted (E.config (at E x k)) = halt q c (exact E x good k low r) in
          there (halted_room E x good k t low r y)
          (subst (Inv E x good w) (sym (pos_of E x t k (halted_to E x good k t low b (good_at E x good k low r) y))) i) z

  -- an advance after which the loop goes on, from a step past p
  goes : (t p : ℕ) (o : M.Out) (w : TimelineOver O) (r : M.Out × TimelineOver O) → base E x ≤ p → pos E x p ≡ p → OneAdvance t p o w
      → (O.now w.engine < t) × ¬ (O.now w.engine ≡ p)
      → ((q : ℕ) → Inv E x good w q → q ≤ t → p < q → Way t r.0 r.1) → Way t r.0 r.1
  goes t p o w r e m (off k a b n i f d) c ih =
      ih k i (omega arith) (omega (arith, c.1, now_at E x good w.engine k i.engine_at))
  goes t p o w r e m (on k a b g y i z) c ih =
      ih (pos E x k) i (omega (arith, c.0, now_at E x good w.engine (pos E x k) i.engine_at))
      (omega (arith, c.1, now_at E x good w.engine (pos E x k) i.engine_at, climb_to E x good p k e a y))

  turn : (t p n : ℕ) (o : M.Out) (w : TimelineOver O) (r : M.Out × TimelineOver O) → n ≡ p → base E x ≤ p → p ≤ t → pos E x p ≡ p → OneAdvance t p o w
      → ((q : ℕ) → Inv E x good w q → q ≤ t → p < q → Way t r.0 r.1)
      → Way t (pick (Done O t w n) (o, w) r).0 (pick (Done O t w n) (o, w) r).1
  turn t p n o w r m e l y g ih = pick_cases (Done O t w n) (o, w) r (λ (z : M.Out × TimelineOver O). Way t z.0 z.1)
      (λ q. ends t p o w e l g (subst (λ a. (t ≤ O.now w.engine) ⊎ (O.now w.engine ≡ a)) m (done t (O.now w.engine) n q)))
      (λ q. goes t p o w r e y g (subst (λ a. (O.now w.engine < t) × ¬ (O.now w.engine ≡ a)) m (not_done t (O.now w.engine) n q)) ih)

  -- the loop, with enough gas
  pub go_on_lem : (gas t : ℕ) (w : TimelineOver O) (p : ℕ) → Inv E x good w p → p ≤ t → t ≤ steps_most → t < gas + p
      → Way t (advance_to O gas t w).0 (advance_to O gas t w).1
  unfolding advance_to
  go_on_lem zero t w p i l h g = absurd (omega arith)
  go_on_lem (suc gas) t w p i l h g =
      turn t p (O.now w.engine) (stride O t (record_due O w)).0 (turned O t w)
      (advance_to O gas t (turned O t w))
      (now_at E x good w.engine p i.engine_at) i.engine_at.low l i.engine_at.exactly
      (one_advance t (record_due O w) p (record_due_lem E x good w p i).inv (record_due_lem E x good w p i).later l h)
      (λ q j a b. go_on_lem gas t (turned O t w) q j a h (omega arith))
