-- Forward a and then forward b is forward a + b: from the statement's claims about the three calls. Assumes nothing.
use Rattle.std.specs.Prelude.{ℕ, ◌+◌, ◌-◌, ◌≤◌, ◌<◌, ◌≡◌, List}
use Rattle.std.proofs.Common.{sym, ap, ◌∙◌, subst, arith}
use Rattle.std.proofs.Math.Decide.{dec_lt}
use Rattle.notation.specs.Limits.{steps_most}
use Rattle.outcome.specs.declared.Outcome.{Outcome}
use Rattle.outcome.specs.declared.Outcome.TheVariants as Out
use Rattle.machine.specs.declared.Machine.{Machine}
use Rattle.table_machine.specs.TableMachine.{Config, Verdict}
use Rattle.table_machine.specs.Tables.{table_of}
use Rattle.table_machine.proofs.Facts.Verdict.{verdict_unique}
use Rattle.timeline_rule.specs.declared.Call.TheVariants.{Forward}
use Rattle.timeline_rule.specs.Model.Timeline.{answered}
use Rattle.timeline_rule.specs.Model.Kind.{TimelineOf, call_on}
use Rattle.timeline_laws.specs.Automaton.{Automaton, reach}
use Rattle.timeline_laws.proofs.Facts.Steps.{run_reach, run_on_holds}
use Rattle.timeline_laws.specs.TableRun.{machine}
use Rattle.timeline_laws.specs.Meaning.{EngineMeaning}
use Rattle.timeline_laws.specs.Statement.{after_steps, reach_in, goal_in, held_on, RoomFor, Twice, Stuck, Result}
use Rattle.timeline_laws.specs.Instance.{Instance}
use Rattle.timeline_laws.proofs.Facts.Results.{runs_is, reach_in_lem, base_is}

module _ (X : EngineMeaning) (m : Machine) (s : List ℕ) (e : X.kind.State) (I : Instance X m s e) where
  abbrev c : Config
  c = X.config m e

  abbrev M : Automaton
  M = machine m s I.table

  -- the configuration that e holds, by the laws
  abbrev d : Config
  d = I.laws.config (I.laws.mean e)

  same_first : c.steps ≡ d.steps
  same_first = sym (base_is X m s e I)

  -- ---- the table machine: its step count after t steps is at most t, and the run goes on from there

  reach_low : (t : ℕ) → c.steps ≤ t → (c.steps ≤ reach_in m s c t) × (reach_in m s c t ≤ t)
  reach_low t l =
      let r = run_reach M d t (omega (arith, same_first)) in
      (omega (arith, same_first, r.0, reach_in_lem X m s e I t), omega (arith, r.1, reach_in_lem X m s e I t))

  reached_run : (t : ℕ) → c.steps ≤ t → after_steps m s c (reach_in m s c t) ≡ after_steps m s c t
  reached_run t l = ap (after_steps m s c) (sym (reach_in_lem X m s e I t))
      ∙ (sym (runs_is X m s e I (reach M d t)) ∙ ((run_reach M d t (omega (arith, same_first))).2 ∙ runs_is X m s e I t))

  onward_run : (t n : ℕ) → c.steps ≤ t → after_steps m s c (n + reach_in m s c t) ≡ after_steps m s c (n + t)
  onward_run t n l = ap (λ j. after_steps m s c (n + j)) (sym (reach_in_lem X m s e I t))
      ∙ (sym (runs_is X m s e I (n + reach M d t)) ∙ (run_on_holds M d t n (omega (arith, same_first)) ∙ runs_is X m s e I (n + t)))

  -- ---- the three calls

  module _ (u : TimelineOf X.kind) (p a b : ℕ) (under : (X.config m e).steps ≤ p) (small : p + a + b ≤ steps_most)
      (free : RoomFor X m s u (Forward a)) (again : RoomFor X m s (call_on X.kind m s u (Forward a)).1 (Forward b))
      (first : Result X m s (X.config m e) e u p (Forward a) (call_on X.kind m s u (Forward a)))
      (second : Result X m s (X.config m e) e (call_on X.kind m s u (Forward a)).1 (reach_in m s (X.config m e) (p + a)) (Forward b)
      (call_on X.kind m s (call_on X.kind m s u (Forward a)).1 (Forward b)))
      (once : Result X m s (X.config m e) e u p (Forward (a + b)) (call_on X.kind m s u (Forward (a + b)))) where
    -- where the first call ends
    abbrev q : ℕ
    q = reach_in m s c (p + a)

    q_low : c.steps ≤ q
    q_low = (reach_low (p + a) (omega arith)).0

    q_high : q ≤ p + a
    q_high = (reach_low (p + a) (omega arith)).1

    -- the target of a forward call is not below the start
    forward_goal : (p n : ℕ) → c.steps ≤ p → goal_in m s c p (Forward n) ≡ p + n
    forward_goal p n l = omega arith

    -- a full step on the way of forward a + b would be on the way of forward a or of forward b
    whole_free : RoomFor X m s u (Forward (a + b))
    whole_free n z = by (once.stops n z) (dec_lt n (p + a)) (dec_lt n (q + b))
      where
        by : Stuck X m s c e (call_on X.kind m s u (Forward (a + b))).1 p (goal_in m s c p (Forward (a + b))) n → Dec (n < p + a) → Dec (n < q + b) → ⊥
        by k (yes l) h = let f = (first.space (omega arith)).1 (n, k.from, omega (arith, forward_goal p a under), k.full) in free f.0 f.1
        by k (no l) (yes h) = let f = (second.space (omega (arith, q_high))).1 (n, omega (arith, q_high), omega (arith, forward_goal q b q_low), k.full) in again f.0 f.1
        by k (no l) (no h) =
            let more : ℕ = n - (p + a) in
            let made : n ≡ reach_in m s c n = once.numbers (Out.Full n) z ∙ ap (λ (y : Config). y.steps) k.holds in
            let on : reach_in m s c (more + q) ≡ reach_in m s c (more + (p + a)) = ap (λ (y : Config). y.steps) (onward_run (p + a) more (omega arith)) in
            let there : more + (p + a) ≡ n = omega arith in
            let same : reach_in m s c (more + (p + a)) ≡ reach_in m s c n = ap (reach_in m s c) there in
            omega (arith, q_high, made, on, same, (reach_low (more + q) (omega (arith, q_low))).1, k.short, forward_goal p (a + b) under)

    abbrev Answered : TimelineOf X.kind → ℕ → Type 0
    Answered v n = (o : Outcome) × ((call_on X.kind m s v (Forward n)).0 ≡ answered o)

    two : Answered (call_on X.kind m s u (Forward a)).1 b
    two = second.accepts (omega (arith, q_high))

    one : Answered u (a + b)
    one = once.accepts (omega arith)

    -- the configurations after the two calls, and after the one
    abbrev there : Config
    there = after_steps m s c (reach_in m s c (goal_in m s c q (Forward b)))

    abbrev at_once : Config
    at_once = after_steps m s c (reach_in m s c (goal_in m s c p (Forward (a + b))))

    two_says : (held_on X m s (call_on X.kind m s (call_on X.kind m s u (Forward a)).1 (Forward b)).1 ≡ there) × Verdict m.tapes (table_of m s) there two.0
    two_says = second.says two.0 two.1 (λ n f. again n (two.1 ∙ ap answered f))

    one_says : (held_on X m s (call_on X.kind m s u (Forward (a + b))).1 ≡ at_once) × Verdict m.tapes (table_of m s) at_once one.0
    one_says = once.says one.0 one.1 (λ n f. whole_free n (one.1 ∙ ap answered f))

    same_end : there ≡ at_once
    same_end = reached_run (goal_in m s c q (Forward b)) (omega arith)
        ∙ (ap (after_steps m s c) left ∙ (onward_run (p + a) b (omega arith) ∙ (ap (after_steps m s c) right ∙ sym (reached_run (goal_in m s c p (Forward (a + b))) (omega arith)))))
      where
        left : goal_in m s c q (Forward b) ≡ b + q
        left = omega (arith, forward_goal q b q_low)

        right : b + (p + a) ≡ goal_in m s c p (Forward (a + b))
        right = omega (arith, forward_goal p (a + b) under)

    pub twice_is : Twice X m s u a b
    twice_is = record {
      holds = two_says.0 ∙ (same_end ∙ sym one_says.0);
      answers = two.1 ∙ (ap answered (verdict_unique m.tapes (table_of m s) _ two.0 one.0
          (subst (λ y. Verdict m.tapes (table_of m s) y two.0) same_end two_says.1) one_says.1) ∙ sym one.1);
    }
