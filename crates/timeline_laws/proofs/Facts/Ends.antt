-- How a call ends: refused, at its target or the halt before that, or short of it at a full step. Assumes nothing.
use Rattle.outcome.specs.declared.Refusal.{Refusal}
use Rattle.std.specs.Prelude.{ℕ, ◌≤◌, ◌<◌, max, ◌≡◌, true, false, leb, Err, Ok, Result, ⊤}
use Rattle.std.proofs.Common.{sym, ◌∙◌, ap, subst, arith, leb-true, leb-false}
use Rattle.std.proofs.Math.Decide.{dec_le}
use Rattle.notation.proofs.Facts.Tests.{by_test, pick_true, pick_false}
use Rattle.notation.specs.Limits.{steps_most}
use Rattle.outcome.specs.declared.Refusal.TheVariants as Why
use Rattle.machine.specs.Model.Check.{demand}
use Rattle.timeline_rule.specs.Model.Engine.{Ops}
use Rattle.timeline_rule.specs.declared.Call.{Call}
use Rattle.timeline_rule.specs.Model.Timeline.{TimelineOver, refused, answered, target, go_to, on_check, call}
use Rattle.timeline_laws.specs.Automaton.{Automaton, run, reach}
use Rattle.timeline_laws.specs.Laws.{Laws}
use Rattle.timeline_laws.proofs.Facts.Steps.{base, at, Room, pos_is, config_at}
use Rattle.timeline_laws.proofs.Facts.Invariant.{Inv}
use Rattle.timeline_laws.proofs.Facts.Loop.{Way, there, stuck}
use Rattle.timeline_laws.proofs.Facts.Call.{Taken, call_is, taken}

module _ {M : Automaton} {O : Ops M.Out} (E : Laws M O) (x : E.Mean) (good : E.Good x) where
  -- by the invariant, the engine holds the configuration at step p
  pub inv_held : (w : TimelineOver O) (p : ℕ) → Inv E x good w p → E.config (E.mean w.engine) ≡ run M (E.config x) p
  inv_held w p i = ap E.config i.engine_at.here ∙ config_at E x good p i.engine_at.low i.engine_at.room

  -- the target of a call at p, or the start where that is more
  abbrev pub aim : ℕ → Call → ℕ
  aim p c = max (target p c) (base E x)

  -- the call c, made at p on w: its answer, and the engine's step after it
  pub data Ends (w : TimelineOver O) (p : ℕ) (c : Call) : Type 0 where
    over : steps_most < target p c → call O w c ≡ (refused Why.StepLimit, w) → Ends w p c
    reached : target p c ≤ steps_most → (o : M.Out) → (call O w c).0 ≡ answered o → Room E x (aim p c)
        → Inv E x good (call O w c).1 (reach M (E.config x) (aim p c)) → M.Verdict (E.config (E.mean (call O w c).1.engine)) o → Ends w p c
    stopped : target p c ≤ steps_most → (o : M.Out) → (call O w c).0 ≡ answered o → (j : ℕ) → p ≤ j → j < aim p c → E.NoRoom (at E x j)
        → Inv E x good (call O w c).1 j → M.Full o → M.counted o ≡ j → Ends w p c

  pub ends : (w : TimelineOver O) (p : ℕ) (c : Call) → Inv E x good w p → Ends w p c
  ends w p c i = by_test (leb (target p c) steps_most) low high
    where
      checks : (r : Result ⊤ Refusal) → demand (leb (target p c) steps_most) Why.StepLimit (Ok tt) ≡ r → call O w c ≡ on_check O r w (go_to O (aim p c) w)
      checks r q = call_is E x good w p c i ∙ ap (λ r. on_check O r w (go_to O (aim p c) w)) q

      high : leb (target p c) steps_most ≡ false → Ends w p c
      high q = over (leb-false (target p c) steps_most q)
          (checks (Err Why.StepLimit) (pick_false (leb (target p c) steps_most) (Ok tt) (Err Why.StepLimit) q))

      took : leb (target p c) steps_most ≡ true → Taken E x good (aim p c) (call O w c)
      took q = subst (Taken E x good (aim p c)) (sym (checks (Ok tt) (pick_true (leb (target p c) steps_most) (Ok tt) (Err Why.StepLimit) q)))
          (taken E x good w p (aim p c) i (omega arith) (omega (arith, leb-true (target p c) steps_most q, i.engine_at.low, i.engine_at.small)))

      -- the full step is not before p, because all steps before p had room
      late : (j : ℕ) → base E x ≤ j → E.NoRoom (at E x j) → Dec (p ≤ j) → p ≤ j
      late j a k (yes h) = h
      late j a k (no h) = absurd (i.engine_at.room j a (omega arith) k)

      low : leb (target p c) steps_most ≡ true → Ends w p c
      low q = by (took q).way
        where
          by : Way E x good (aim p c) (took q).out (call O w c).1 → Ends w p c
          by (there r j v) = reached (leb-true (target p c) steps_most q) (took q).out (took q).says r
              (subst (Inv E x good (call O w c).1) (pos_is E x (aim p c) ∙ ap M.steps (config_at E x good (aim p c) (omega arith) r)) j) v
          by (stuck j h k v f d) = stopped (leb-true (target p c) steps_most q) (took q).out (took q).says j (late j v.engine_at.low k (dec_le p j)) h k v f d
