-- One call over a kind of engine: the statement's claims about its result, and p after it. Assumes nothing.
use Rattle.std.specs.Prelude.{ℕ, ◌-◌, ◌≤◌, ◌<◌, max, ◌≡◌, refl, ◌↔◌, List, leb}
use Rattle.std.proofs.Common.{sym, ◌∙◌, arith, le-leb, eq-eqb}
use Rattle.std.proofs.Math.Path.{ap, subst}
use Rattle.std.proofs.lemmas.Bool.{lt-leb}
use Rattle.notation.proofs.Facts.Tests.{pick_true, pick_false}
use Rattle.notation.specs.Limits.{steps_most}
use Rattle.outcome.specs.declared.Outcome.{Outcome}
use Rattle.outcome.specs.declared.Outcome.TheVariants as Out
use Rattle.outcome.specs.declared.Refusal.{Refusal}
use Rattle.outcome.specs.declared.Refusal.TheVariants as Why
use Rattle.outcome.specs.Numbers.{steps_of}
use Rattle.outcome.proofs.Facts.Numbers.{full_of}
use Rattle.machine.specs.declared.Machine.{Machine}
use Rattle.table_machine.specs.TableMachine.{Table, Config, step, Halted, Verdict, halts, stays, walks, goes}
use Rattle.table_machine.specs.Tables.{table_of, Bare}
use Rattle.timeline_rule.specs.Model.Engine.{Ops}
use Rattle.timeline_rule.specs.declared.Call.{Call}
use Rattle.timeline_rule.specs.Model.Timeline.{Reply, refused, answered, call, target}
use Rattle.timeline_rule.specs.Model.Kind.{ops_of, ops_for, TimelineOf, call_on}
use Rattle.timeline_laws.specs.Automaton.{Automaton, iterate, run as runs, reach, IsFull, IsNever}
use Rattle.timeline_laws.specs.Laws.{Laws}
use Rattle.timeline_laws.proofs.Facts.Steps.{base, at, run_real, never_any}
use Rattle.timeline_laws.proofs.Facts.Invariant.{Inv, now_at}
use Rattle.timeline_laws.proofs.Facts.Ends.{inv_held, aim, Ends, over, reached, stopped, ends}
use Rattle.timeline_laws.specs.TableRun.{machine}
use Rattle.timeline_laws.specs.TableRunFacts.{iterate-run}
use Rattle.timeline_laws.specs.Meaning.{EngineMeaning}
use Rattle.timeline_laws.specs.Statement.{after_steps, reach_in, goal_in, moved_in, Numbers, steps_if, stopped_at, held_on, FullFrom, Stuck, Result}
use Rattle.timeline_laws.specs.Instance.{Instance}

-- ---- answers

full_stops : (o : Outcome) (q : ℕ) → IsFull o → steps_of o ≡ stopped_at (answered o) q
full_stops o q f = sym (ap (λ b. steps_if b o q) (eq-eqb _ 4 f))

verdict_goes : (t : ℕ) (d : Table) (c : Config) (o : Outcome) (q : ℕ) → Verdict t d c o → q ≡ stopped_at (answered o) q
verdict_goes t d c o q (halts h) = refl
verdict_goes t d c o q (stays a h r) = refl
verdict_goes t d c o q (walks a x h r) = refl
verdict_goes t d c o q (goes a h r u) = refl

verdict_numbers : (t : ℕ) (d : Table) (c : Config) (o : Outcome) → Verdict t d c o → Numbers o c
verdict_numbers t d c o (halts h) = (refl, refl)
verdict_numbers t d c o (stays a h r) = (refl, refl)
verdict_numbers t d c o (walks a x h r) = (refl, refl)
verdict_numbers t d c o (goes a h r u) = refl

no_answer : (r : Reply Outcome) (o : Outcome) (why : Refusal) → r ≡ refused why → r ≡ answered o → ⊥
no_answer r o why a b = let z : ◌≡◌ {A = ℕ} 0 1 = cc in omega arith

one_answer : (r : Reply Outcome) (o p : Outcome) → r ≡ answered o → r ≡ answered p → o ≡ p
one_answer r o p a b = cc

module _ (X : EngineMeaning) (m : Machine) (s : List ℕ) (e : X.kind.State) (I : Instance X m s e) where
  abbrev ops : Ops Outcome
  ops = ops_for X.kind m s e

  abbrev M : Automaton
  M = machine m s I.table

  abbrev E : Laws (machine m s I.table) (ops_for X.kind m s e)
  E = I.laws

  -- the configuration that e holds
  abbrev c : Config
  c = X.config m e

  -- the timeline is at step p, and has the invariant between calls
  abbrev pub TimelineAt : TimelineOf X.kind → ℕ → Type 0
  TimelineAt = Inv E (E.mean e) (E.fits_good e I.fits)

  -- ---- the run and the rule for p

  pub runs_is : (n : ℕ) → runs M (E.config (E.mean e)) n ≡ after_steps m s c n
  unfolding runs
  runs_is n = ap (λ (y : Config). iterate (step (table_of m s)) (n - y.steps) y) (I.same_config e) ∙ iterate-run (table_of m s) (n - c.steps) c

  pub reach_in_lem : (t : ℕ) → reach M (E.config (E.mean e)) t ≡ reach_in m s c t
  reach_in_lem t = ap (λ (c : Config). c.steps) (runs_is t)

  pub base_is : base E (E.mean e) ≡ c.steps
  base_is = ap (λ (y : Config). y.steps) (I.same_config e)

  aim_is : (p : ℕ) (k : Call) → aim E (E.mean e) (E.fits_good e I.fits) p k ≡ goal_in m s c p k
  aim_is p k = ap (max (target p k)) base_is

  moved_under : (p : ℕ) (k : Call) → target p k ≤ steps_most → moved_in m s c p k ≡ reach_in m s c (goal_in m s c p k)
  moved_under p k l = pick_true (leb (target p k) steps_most) (reach_in m s c (goal_in m s c p k)) p (le-leb (target p k) steps_most l)

  moved_over : (p : ℕ) (k : Call) → steps_most < target p k → moved_in m s c p k ≡ p
  moved_over p k l = pick_false (leb (target p k) steps_most) (reach_in m s c (goal_in m s c p k)) p (lt-leb (target p k) steps_most l)

  -- ---- full steps

  pub full_is : (j : ℕ) → E.NoRoom (at E (E.mean e) j) ↔ FullFrom X m s c e j
  unfolding at
  full_is j = (
    (λ n. (I.full_is (j - c.steps)).0 (subst (λ b. E.NoRoom (iterate E.next (j - b) (E.mean e))) base_is n)),
    (λ n. subst (λ b. E.NoRoom (iterate E.next (j - b) (E.mean e))) (sym base_is) ((I.full_is (j - c.steps)).1 n)),
  )

  -- ---- the engine's step and configuration

  module _ (u : TimelineOf X.kind) (p : ℕ) (i : TimelineAt u p) where
    pub timeline_now : X.kind.now u.engine ≡ p
    timeline_now = now_at E (E.mean e) (E.fits_good e I.fits) u.engine p i.engine_at

    pub timeline_low : c.steps ≤ p
    timeline_low = omega (arith, base_is, i.engine_at.low)

    mean_held : E.config (E.mean u.engine) ≡ after_steps m s c p
    mean_held = inv_held E (E.mean e) (E.fits_good e I.fits) u p i ∙ runs_is p

    pub timeline_held : held_on X m s u ≡ after_steps m s c p
    timeline_held = sym (I.same_config u.engine) ∙ mean_held

  -- the buffers keep their sizes, so the call uses slots of the first engine's size
  agrees : (u : TimelineOf X.kind) (k : Call) → E.Fits u.engine → call_on X.kind m s u k ≡ call ops u k
  unfolding call_on
  agrees u k f = ap (λ z. call (ops_of X.kind m s z) u k) (I.same_size u.engine f)

  -- ---- the result

  module _ (u : TimelineOf X.kind) (p : ℕ) (k : Call) where
    abbrev t : ℕ
    t = goal_in m s c p k

    abbrev r : Reply Outcome × TimelineOf X.kind
    r = call ops u k

    abbrev Claimed : Type 0
    Claimed = Result X m s c e u p k (call ops u k)

    refused_result : steps_most < target p k → r ≡ (refused Why.StepLimit, u) → Claimed
    refused_result l q = record {
      refuses = λ h. (Why.StepLimit, refl, q);
      accepts = λ h. absurd (omega arith);
      space = λ h. absurd (omega arith);
      stops = λ n a. absurd (no (Out.Full n) a);
      says = λ o a h. absurd (no o a);
      numbers = λ o a. absurd (no o a);
      never = λ n f a. absurd (no (Out.NeverHalts n f) a);
    }
      where
        no : (o : Outcome) → r.0 ≡ answered o → ⊥
        no o a = no_answer r.0 o Why.StepLimit (ap (λ (z : Reply Outcome × TimelineOf X.kind). z.0) q) a

    module _ (l : target p k ≤ steps_most) (o : Outcome) (says : (call ops u k).0 ≡ answered o) where
      is : (z : Outcome) → r.0 ≡ answered z → o ≡ z
      is z a = one_answer r.0 o z says a

      reached_result : TimelineAt u p → ((j : ℕ) → base E (E.mean e) ≤ j → j < t → ¬ E.NoRoom (at E (E.mean e) j)) → TimelineAt (call ops u k).1 (reach_in m s c (goal_in m s c p k))
          → Verdict m.tapes (table_of m s) (E.config (E.mean (call ops u k).1.engine)) o → Claimed
      reached_result now room i v = record {
        refuses = λ h. absurd (omega arith);
        accepts = λ h. (o, says);
        space = λ h. (λ f. absurd (not_full f.0 f.1), λ j. absurd (room j.0 (omega (arith, now.engine_at.low, j.1)) j.2 ((full_is j.0).1 j.3)));
        stops = λ n a. absurd (not_full n a);
        says = λ z a h. (held, subst (Verdict m.tapes (table_of m s) (after_steps m s c (reach_in m s c t))) (is z a) there);
        numbers = λ z a. subst (λ y. Numbers y (held_on X m s r.1)) (is z a) (verdict_numbers _ _ _ o (subst (λ y. Verdict m.tapes (table_of m s) y o) (sym held) there));
        never = λ n f a j. subst (λ y. ¬ Halted (table_of m s) y) (runs_is j)
            (never_any M (E.config (E.mean e)) (reach_in m s c t) i.engine_at.low
            (M.never_halts (runs M (E.config (E.mean e)) (reach_in m s c t)) o (run_real M (E.config (E.mean e)) real (reach_in m s c t))
            (subst (λ y. Verdict m.tapes (table_of m s) y o) (sym (runs_is (reach_in m s c t))) there) (subst IsNever (sym (is _ a)) refl)) j);
      }
        where
          not_full : (n : ℕ) → r.0 ≡ answered (Out.Full n) → ⊥
          not_full n a = M.verdict_not_full _ o v (subst IsFull (sym (is _ a)) refl)

          real : Bare m.tapes (E.config (E.mean e))
          real = subst (Bare m.tapes) (sym (I.same_config e)) I.bare

          held : held_on X m s r.1 ≡ after_steps m s c (reach_in m s c t)
          held = timeline_held r.1 (reach_in m s c t) i

          there : Verdict m.tapes (table_of m s) (after_steps m s c (reach_in m s c t)) o
          there = subst (λ y. Verdict m.tapes (table_of m s) y o) (mean_held r.1 (reach_in m s c t) i) v

      stopped_result : (j : ℕ) → p ≤ j → j < t → E.NoRoom (at E (E.mean e) j) → TimelineAt (call ops u k).1 j → IsFull o → steps_of o ≡ j → Claimed
      stopped_result j b h y i f d = record {
        refuses = λ h. absurd (omega arith);
        accepts = λ h. (o, says);
        space = λ _. (λ f. (j, b, h, (full_is j).0 y), λ f. (j, full_there));
        stops = λ n a. subst (Stuck X m s c e r.1 p t) (step n a) stuck;
        says = λ z a g. absurd (g j (sym (is z a) ∙ is_full_holds));
        numbers = λ z a. subst (λ y. Numbers y (held_on X m s r.1)) (sym is_full_holds ∙ is z a) counts;
        never = λ n g a. absurd (omega (arith, subst IsFull (is _ a) f));
      }
        where
          is_full_holds : o ≡ Out.Full j
          is_full_holds = full_of o f ∙ ap Out.Full d

          full_there : r.0 ≡ answered (Out.Full j)
          full_there = says ∙ ap answered is_full_holds

          step : (n : ℕ) → r.0 ≡ answered (Out.Full n) → j ≡ n
          step n a = ap steps_of (sym is_full_holds ∙ is _ a)

          counts : j ≡ (held_on X m s r.1).steps
          counts = sym (timeline_now r.1 j i) ∙ (E.now_is r.1.engine ∙ ap (λ (y : Config). y.steps) (I.same_config r.1.engine))

          stuck : Stuck X m s c e r.1 p t j
          stuck = record {
            holds = timeline_held r.1 j i;
            from = b;
            short = h;
            full = (full_is j).0 y;
            first = λ n a l z. i.engine_at.room n (omega (arith, base_is)) l ((full_is n).1 z);
          }

    abbrev Ended : Type 0
    Ended = Ends E (E.mean e) (E.fits_good e I.fits) u p k

    ended : TimelineAt u p → Ended
    ended i = ends E (E.mean e) (E.fits_good e I.fits) u p k i

    -- p after a call that reached its target
    reach_aim : reach M (E.config (E.mean e)) (aim E (E.mean e) (E.fits_good e I.fits) p k) ≡ reach_in m s c t
    reach_aim = reach_in_lem (aim E (E.mean e) (E.fits_good e I.fits) p k) ∙ ap (reach_in m s c) (aim_is p k)

    claimed : TimelineAt u p → Ended → Claimed
    claimed n (over l q) = refused_result l q
    claimed n (reached l o a room i v) = reached_result l o a n (λ j b h. room j b (omega (arith, aim_is p k))) (subst (TimelineAt (call ops u k).1) reach_aim i) v
    claimed n (stopped l o a j b h y i f d) = stopped_result l o a j b (omega (arith, aim_is p k)) y i f d

    pub result : TimelineAt u p → Result X m s c e u p k (call_on X.kind m s u k)
    result i = subst (Result X m s c e u p k) (sym (agrees u k i.engine_at.fits)) (claimed i (ended i))

    -- ---- p after the call

    abbrev Next : Reply Outcome × TimelineOf X.kind → Type 0
    Next z = TimelineAt z.1 (stopped_at z.0 (moved_in m s c p k))

    goes_to : TimelineAt u p → Ended → Next (call ops u k)
    goes_to i (over l q) = subst Next (sym q) (subst (TimelineAt u) (sym (moved_over p k l)) i)
    goes_to i (reached l o a room j v) = subst (λ z. TimelineAt r.1 (stopped_at z (moved_in m s c p k))) (sym a)
        (subst (TimelineAt r.1) (reach_aim ∙ (sym (moved_under p k l) ∙ verdict_goes _ _ _ o _ v)) j)
    goes_to i (stopped l o a j b h y z f d) = subst (λ z. TimelineAt r.1 (stopped_at z (moved_in m s c p k))) (sym a)
        (subst (TimelineAt r.1) (sym d ∙ full_stops o _ f) z)

    pub next_at : TimelineAt u p → TimelineAt (call_on X.kind m s u k).1 (stopped_at (call_on X.kind m s u k).0 (moved_in m s c p k))
    next_at i = subst Next (sym (agrees u k i.engine_at.fits)) (goes_to i (ended i))
