-- The third demand, proved for every kind of engine whose engines meet the laws: from any engine value, and so for fresh engines. Assumes nothing.
use Rattle.std.specs.Prelude.{ℕ, ◌+◌, ◌-◌, ◌*◌, ◌≤◌, ◌<◌, ◌≡◌, ◌↔◌, leb, None, Option, Some}
use Rattle.std.proofs.Math.Path.{refl, ap}
use Rattle.std.proofs.Common.{sym, ◌∙◌, subst, arith, le-leb, eqb-true}
use mathlib.Core.List.{List, [], ◌∷◌}
use Rattle.notation.specs.Choice.{pick}
use Rattle.notation.proofs.Facts.Tests.{pick_true, by_test}
use Rattle.notation.specs.Limits.{steps_most}
use Rattle.outcome.specs.declared.Outcome.{Outcome}
use Rattle.outcome.specs.declared.Outcome.TheVariants as Out
use Rattle.outcome.specs.Numbers.{steps_of, is_full}
use Rattle.outcome.proofs.Facts.Numbers.{full_of}
use Rattle.machine.specs.declared.Machine.{Machine}
use Rattle.table_machine.specs.TableMachine.{Config, start, run, Halted}
use Rattle.table_machine.specs.Tables.{table_of}
use Rattle.store_bytes.specs.Model.{slot_of}
use Rattle.timeline_rule.specs.declared.Call.{Call}
use Rattle.timeline_rule.specs.declared.Call.TheVariants.{Forward}
use Rattle.timeline_rule.specs.Model.Timeline.{Reply, refused, answered, target, call}
use Rattle.timeline_rule.specs.Model.Kind.{ops_of, ops_for, TimelineOf, new_on, call_on}
use Rattle.timeline_laws.specs.Automaton.{Automaton, run as runs, IsFull}
use Rattle.timeline_laws.specs.Laws.{Laws, Advance, went, full}
use Rattle.timeline_laws.proofs.Facts.Steps.{base, reach_runs, reach_halts}
use Rattle.timeline_laws.proofs.Facts.Invariant.{Slot, Inv, slot_now}
use Rattle.timeline_laws.proofs.Facts.Ends.{Ends, over, reached, stopped, ends}
use Rattle.timeline_laws.proofs.Facts.New.{Begun, begun, born_inv}
use Rattle.timeline_laws.specs.TableRun.{machine}
use Rattle.timeline_laws.specs.Meaning.{EngineMeaning}
use Rattle.timeline_laws.specs.Notes.{noting, bare, NotedOf, new_noted, call_noted, after_noted}
use Rattle.timeline_laws.proofs.Facts.Notes.{call_bare, noted}
use Rattle.timeline_laws.specs.Statement.{or_halt, place_by, HaltedAt, HaltsIn, reach_in, goal_in, moved_in, place_in, steps_if, stopped_at, after_on, place_on, place_after, RoomFor, Roomy, Twice, FullFrom, SlotGives, WholeList, DemandFrom, Demand}
use Rattle.timeline_laws.specs.Instance.{Instance, Instances, Beginnings}
use Rattle.timeline_laws.proofs.Facts.Results.{TimelineAt, runs_is, reach_in_lem, base_is, timeline_now, timeline_low, timeline_held, result, next_at}
use Rattle.timeline_laws.proofs.Facts.Twice.{twice_is}

-- after an answer other than full, the rule gives p
not_stopped : (r : Reply Outcome) (q : ℕ) → ((n : ℕ) → ¬ (r ≡ answered (Out.Full n))) → stopped_at r q ≡ q
not_stopped (refused why) q f = refl
not_stopped (answered o) q f =
    by_test (is_full o) (λ t. absurd (f (steps_of o) (ap answered (full_of o (eqb-true _ 4 t))))) (λ t. ap (λ b. steps_if b o q) t)

module _ (X : EngineMeaning) (m : Machine) (s : List ℕ) (e : X.kind.State) (I : Instance X m s e) where
  abbrev M : Automaton
  M = machine m s I.table

  abbrev E : Laws (machine m s I.table) (ops_for X.kind m s e)
  E = I.laws

  abbrev c : Config
  c = X.config m e

  first_is : c.steps ≡ base E (E.mean e)
  first_is = sym (base_is X m s e I)

  -- ---- the rule for p

  roomy_place : (u : TimelineOf X.kind) (p : ℕ) (ks : List Call) → Roomy X m s u ks → place_on X m s c u p ks ≡ place_in m s c p ks
  roomy_place u p [] r = refl
  roomy_place u p (k ∷ ks) r =
      roomy_place (call_on X.kind m s u k).1 (stopped_at (call_on X.kind m s u k).0 (moved_in m s c p k)) ks r.1
      ∙ ap (λ q. place_in m s c q ks) (not_stopped (call_on X.kind m s u k).0 (moved_in m s c p k) r.0)

  -- the table machine has not halted, in the form that the laws use
  not_halted : (j : ℕ) → ¬ HaltedAt m s c j → ¬ Halted (table_of m s) (runs M (E.config (E.mean e)) j)
  not_halted j q = subst (λ y. ¬ Halted (table_of m s) y) (sym (runs_is X m s e I j)) q

  reach_by : (h : Option ℕ) → HaltsIn m s c h → (t : ℕ) → c.steps ≤ t → reach_in m s c t ≡ or_halt t h
  reach_by None q t l = sym (reach_in_lem X m s e I t) ∙ reach_runs M (E.config (E.mean e)) t (omega (arith, first_is)) (λ j a b. not_halted j (q j (omega (arith, first_is))))
  reach_by (Some h) q t l = sym (reach_in_lem X m s e I t)
      ∙ reach_halts M (E.config (E.mean e)) h t (omega (arith, first_is, q.0)) (omega (arith, first_is))
      (subst (Halted (table_of m s)) (sym (runs_is X m s e I h)) q.1) (λ j a b. not_halted j (q.2 j (omega (arith, first_is)) b))

  place_by_holds : (h : Option ℕ) → HaltsIn m s c h → (p : ℕ) (ks : List Call) → place_in m s c p ks ≡ place_by c.steps h p ks
  place_by_holds h q p [] = refl
  place_by_holds h q p (k ∷ ks) = place_by_holds h q (moved_in m s c p k) ks
      ∙ ap (λ t. place_by c.steps h (pick (leb (target p k) steps_most) t p) ks) (reach_by h q (goal_in m s c p k) (omega arith))

  -- ---- the engine's own rule of space

  full_rule : (n : ℕ) (o : Outcome) (y : E.Mean) → Advance M E.Mean E.config E.next E.NoRoom n (E.mean e) o y
      → ((i : ℕ) × (o ≡ Out.Full i)) ↔ ((j : ℕ) × (c.steps ≤ j) × (j < c.steps + n) × FullFrom X m s c e j)
  full_rule n o y (went r q v) = (
    (λ f. absurd (M.verdict_not_full (E.config y) o v (subst IsFull (sym f.1) refl))),
    (λ f. absurd (r (f.0 - c.steps) (omega (arith, f.1, f.2)) ((I.full_is (f.0 - c.steps)).1 f.3))),
  )
  full_rule n o y (full j l r k q f d) = ((λ _. (c.steps + j, omega arith, omega arith, subst (X.FullStep m s e) there ((I.full_is j).0 k))), (λ _. (steps_of o, full_of o f)))
    where
      there : j ≡ c.steps + j - c.steps
      there = omega arith

  now_first : X.kind.now e ≡ c.steps
  now_first = E.now_is e ∙ base_is X m s e I

  -- ---- lists

  at_after : (u : TimelineOf X.kind) (p : ℕ) (ks : List Call) → TimelineAt X m s e I u p → TimelineAt X m s e I (after_on X m s u ks) (place_on X m s c u p ks)
  at_after u p [] i = i
  at_after u p (k ∷ ks) i =
      at_after (call_on X.kind m s u k).1 (stopped_at (call_on X.kind m s u k).0 (moved_in m s c p k)) ks (next_at X m s e I u p k i)

  twice_from : (u : TimelineOf X.kind) (p : ℕ) → TimelineAt X m s e I u p → (a b : ℕ) → p + a + b ≤ steps_most
      → RoomFor X m s u (Forward a) → RoomFor X m s (call_on X.kind m s u (Forward a)).1 (Forward b) → Twice X m s u a b
  twice_from u p i a b l f g = twice_is X m s e I u p a b under l f g
      (result X m s e I u p (Forward a) i) (result X m s e I (call_on X.kind m s u (Forward a)).1 (reach_in m s c (p + a)) (Forward b) next) (result X m s e I u p (Forward (a + b)) i)
    where
      under : c.steps ≤ p
      under = timeline_low X m s e I u p i

      there : goal_in m s c p (Forward a) ≡ p + a
      there = omega (arith, under)

      next : TimelineAt X m s e I (call_on X.kind m s u (Forward a)).1 (reach_in m s c (p + a))
      next = subst (TimelineAt X m s e I (call_on X.kind m s u (Forward a)).1)
          (not_stopped (call_on X.kind m s u (Forward a)).0 (moved_in m s c p (Forward a)) f
          ∙ (pick_true (leb (p + a) steps_most) (reach_in m s c (goal_in m s c p (Forward a))) p (le-leb (p + a) steps_most (omega arith)) ∙ ap (reach_in m s c) there))
          (next_at X m s e I u p (Forward a) i)

  -- ---- notes

  -- a timeline with notes is at step p, and has the invariant
  abbrev NotedAt : NotedOf X.kind → ℕ → Type 0
  NotedAt = Inv (noted E) (E.mean e) (E.fits_good e I.fits)

  -- the buffers keep their sizes
  agrees : (u : NotedOf X.kind) (k : Call) → E.Fits u.engine → call_noted X.kind m s u k ≡ call (noting (ops_for X.kind m s e)) u k
  agrees u k f = ap (λ z. call (noting (ops_of X.kind m s z)) u k) (I.same_size u.engine f)

  noted_next : (u : NotedOf X.kind) (p : ℕ) (k : Call) → NotedAt u p → (q : ℕ) × NotedAt (call_noted X.kind m s u k).1 q
  noted_next u p k i = subst (λ (z : Reply Outcome × NotedOf X.kind). (q : ℕ) × NotedAt z.1 q) (sym (agrees u k i.engine_at.fits))
      (by (ends (noted E) (E.mean e) (E.fits_good e I.fits) u p k i))
    where
      by : Ends (noted E) (E.mean e) (E.fits_good e I.fits) u p k → (q : ℕ) × NotedAt (call (noting (ops_for X.kind m s e)) u k).1 q
      by (over l q) = (p, subst (λ (z : Reply Outcome × NotedOf X.kind). NotedAt z.1 p) (sym q) i)
      by (reached l o a room j v) = (_, j)
      by (stopped l o a j b h y z f d) = (_, z)

  noted_after : (u : NotedOf X.kind) (p : ℕ) (ks : List Call) → NotedAt u p → (q : ℕ) × NotedAt (after_noted X.kind m s u ks) q
  noted_after u p [] i = (p, i)
  noted_after u p (k ∷ ks) i = let n = noted_next u p k i in noted_after (call_noted X.kind m s u k).1 n.0 ks n.1

  notes_aside : (u : NotedOf X.kind) (ks : List Call) → bare (after_noted X.kind m s u ks) ≡ after_on X m s (bare u) ks
  unfolding call_on
  notes_aside u [] = refl
  notes_aside u (k ∷ ks) = notes_aside (call_noted X.kind m s u k).1 ks
      ∙ ap (λ (z : Reply Outcome × TimelineOf X.kind). after_on X m s z.1 ks) (call_bare (ops_for X.kind m s u.engine) u k)

  slot_gives : (u : NotedOf X.kind) (p : ℕ) → NotedAt u p → (i : ℕ) → i < u.times.count → SlotGives X m s c u i
  slot_gives u p n i l = by ((noted E).restores i u.engine u.store slot.engine n.engine_at.fits (omega (arith, n.count_high, n.tidy.room_for_holds)) slot.kept)
    where
      slot : Slot (noted E) (E.mean e) (E.fits_good e I.fits) u.store u.times i
      slot = n.tidy.slot i l

      step : X.kind.now slot.engine ≡ c.steps + i * u.times.every
      step = slot_now (noted E) (E.mean e) (E.fits_good e I.fits) u.store u.times i slot ∙ ap (λ a. a + i * u.times.every) (n.tidy.first_is ∙ sym first_is)

      by : (r : X.kind.State) × ((ops_for X.kind m s e).restore i (X.kind.now slot.engine) u.engine u.store.bytes ≡ Some r)
          × E.Same r slot.engine × (E.mean r ≡ E.mean slot.engine) × E.Fits r → SlotGives X m s c u i
      by r = record {
        saved = slot.engine;
        noted = slot.kept.1;
        step = step;
        read = r.0;
        reads = (λ j. X.kind.unpack m (slot_of (I.same_size u.engine n.engine_at.fits j) i u.store.bytes) (sym step j) u.engine) ∙ r.1;
        same = I.same_engine r.0 slot.engine r.2;
      }

  -- ---- the whole

  module _ (most every : ℕ) (store : List ℕ) (v : TimelineOf X.kind) (n : Begun (ops_for X.kind m s e) most every e store v) where
    new_at : TimelineAt X m s e I v c.steps
    new_at = subst (TimelineAt X m s e I v) (sym first_is)
        (subst (λ z. Inv E (E.mean e) (E.fits_good e I.fits) z (base E (E.mean e))) n.is (born_inv E most every e store I.fits n.settings_in n.slots_in))

    -- a new timeline with notes has the invariant
    new_noted_holds : NotedAt (new_noted X.kind v) (base E (E.mean e))
    new_noted_holds = subst (λ z. NotedAt (new_noted X.kind z) (base E (E.mean e))) n.is
        (born_inv (noted E) most every e (record { bytes = store; note = λ j. None }) I.fits n.settings_in n.slots_in)

    after_at : (ks : List Call) → TimelineAt X m s e I (after_on X m s v ks) (place_after X m s c v ks)
    after_at ks = at_after v c.steps ks new_at

    after_noted_holds : (ks : List Call) → (q : ℕ) × NotedAt (after_noted X.kind m s (new_noted X.kind v) ks) q
    after_noted_holds ks = noted_after (new_noted X.kind v) (base E (E.mean e)) ks new_noted_holds

    whole : (ks : List Call) → WholeList X m s c e v ks
    whole ks = record {
      holds = timeline_held X m s e I (after_on X m s v ks) (place_after X m s c v ks) (after_at ks);
      step_count = timeline_now X m s e I (after_on X m s v ks) (place_after X m s c v ks) (after_at ks);
      each = λ before rest k q. result X m s e I (after_on X m s v before) (place_after X m s c v before) k (after_at before);
      onward = λ k. result X m s e I (after_on X m s v ks) (place_after X m s c v ks) k (after_at ks);
      place = roomy_place v c.steps ks;
      paper = λ h q. (place_by_holds h q c.steps ks, reach_by h q);
      twice = twice_from (after_on X m s v ks) (place_after X m s c v ks) (after_at ks);
      rule = λ i l. full_rule i (X.kind.advance m s i e).0 (E.mean (X.kind.advance m s i e).1) (E.advances i e I.fits (omega (arith, now_first)));
      begins = (after_at ks).tidy.first_is ∙ sym first_is;
      notes = notes_aside (new_noted X.kind v) ks;
      slots = λ i l. slot_gives (after_noted X.kind m s (new_noted X.kind v) ks) (after_noted_holds ks).0 (after_noted_holds ks).1 i
          (subst (λ (z : TimelineOf X.kind). i < z.times.count) (sym (notes_aside (new_noted X.kind v) ks)) l);
    }

pub demand_from : (X : EngineMeaning) → Instances X → DemandFrom X
unfolding new_on
demand_from X i m s y e most every store v n ks =
    let b : Begun (ops_for X.kind m s e) most every e store v = begun (ops_for X.kind m s e) most every e store v n in
    whole X m s e (i m s y e b.checked) most every store v b ks

-- for fresh engines, which hold the word's configuration
pub demand : (X : EngineMeaning) → Instances X → Beginnings X → Demand X
demand X i f m s w y b e q most every store v n ks = record {
  whole = subst (λ c. WholeList X m s c e v ks) (f m s w b e q) (demand_from X i m s y e most every store v n ks);
  after = λ n. ap (λ j. run (table_of m s) j (start m.start w)) (None n);
  aim = λ p k. omega arith;
}
  where
    None : (n : ℕ) → n - 0 ≡ n
    None n = omega arith
