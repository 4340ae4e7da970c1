-- One ordinary step of a burst is one step of the run, for every table that has the entry which the burst follows. Assumes nothing.
use Rattle.symbol.specs.declared.State.{State}
use Rattle.std.specs.Prelude.{◌≡◌, refl, Bool, true, false, List, ℕ, ◌+◌, ◌*◌, ◌-◌, ◌≤◌, min, max, get_or, set, Option}
use Rattle.std.proofs.Math.Path.{sym}
use Rattle.std.proofs.Common.{◌∙◌, arith, ne_eqb}
use Rattle.notation.specs.Choice.{pick, both}
use Rattle.symbol.specs.declared.Dir.TheVariants.{L, R, N}
use Rattle.symbol.specs.Kinds.{state_of}
use Rattle.machine.specs.declared.Machine.{Machine}
use Rattle.machine.specs.declared.Action.{Action}
use Rattle.machine.specs.Layout.{entry_at}
use Rattle.machine.proofs.Facts.Packed.{number_small}
use Rattle.tape.specs.declared.Tape.{Tape}
use Rattle.tape.specs.Model.Moves.{held, leaves, room_for, shift_of}
use Rattle.tape.proofs.Facts.MoveCases.{act_none, act_inside, shift_left, shift_right, shift_none}
use Rattle.sim_burst.specs.declared.inner.step.BurstState.{BurstState}
use Rattle.sim_burst.specs.Model.Burst.{Says, Ordinary, unasked, goes_on, rewrites, reads_one, sees_left, sees_right, Moved, went_left, went_right, stayed, moved_to, Step, Walk, here, more}
use Rattle.run_checks.specs.declared.inner.look.Look.TheVariants.{Go}
use Rattle.run_checks.proofs.Facts.LookCases.{judge_off, look_judged}
use Rattle.sim.specs.declared.Simulator.{Simulator}
use Rattle.sim.specs.Model.Engine.{Task, task, Conf, conf, tape0, tape1, tape2, stays_all, judge_of, look_with, look_of, rooms_of, roomy_of, step_of, run_of}
use Rattle.sim.proofs.Facts.EngineCases.{stepped, run_next}
use Rattle.sim.specs.Model.Bursts.{Misses, into, BurstAllowed}
use Rattle.sim.proofs.Facts.OrdinaryStep.{not_blank_left, not_blank_right, beyond_none, go_leaves, go_reads, go_sees, moves_left, moves_right, writes_other, number-left, number_right, number-none, reads_there, reads_none, entry_of_one}

-- a table s that is Known to the burst, and an engine v on which it may run
module _ (Known : List ℕ → Type 0) (m : Machine) (s : List ℕ) (known : Known s) (p : Bool) (rule : Option State) (stop : ℕ) (v : Simulator) (c1 c2 : List ℕ)
    (burst_allowed : BurstAllowed m.tapes v) (miss : Misses rule stop) where
  abbrev job : Task
  job = task m s p rule

  -- ---- one step

  module _ (x : BurstState) (c : List ℕ) (w next to : ℕ) (st : Step Known p stop m.symbols v.t0.len x c w next to) (steps : ℕ) where
    abbrev read : ℕ
    read = get_or c x.head 0

    abbrev says : Says (entry_at s (x.state * m.symbols + read)) w st.dir next
    says = st.says s known

    abbrev a : Action
    a = says.act

    abbrev eng : Simulator
    eng = into v steps x

    abbrev σ : Conf
    σ = conf eng c c1 c2

    abbrev moved : Simulator
    moved = into v (steps + 1) (moved_to x to next)

    -- what the step does to the tape
    record Goes : Type 0 where
      inside : leaves eng.t0 a.dir0 ≡ false
      tape_is : ◌≡◌ {A = Tape} moved.t0 (shift_of eng.t0 a.dir0)

    tape_by : (head low high : ℕ) → to ≡ head → min x.low to ≡ low → max x.high to ≡ high
        → ◌≡◌ {A = Tape} moved.t0 (record { len = v.t0.len; origin = v.t0.origin; head = head; lowest = low; highest = high })
    tape_by head low high p q r = λ i. record { len = v.t0.len; origin = v.t0.origin; head = p i; lowest = q i; highest = r i }

    goes_of : Moved st.dir x.head to → Goes
    unfolding leaves
    goes_of (went_left e g) =
        let i : a.dir0 ≡ L = number-left a.dir0 (says.moves ∙ e) in
        record {
          inside = rw i (ne_eqb x.head 0 (λ z. omega arith));
          tape_is = tape_by (x.head - 1) _ x.high (omega arith) (omega arith) (omega (arith, st.ok.high_in)) ∙ shift_left eng.t0 a.dir0 (min x.low (x.head - 1)) i refl;
        }
    goes_of (went_right e g) =
        let i : a.dir0 ≡ R = number_right a.dir0 (says.moves ∙ e) in
        record {
          inside = rw i (ne_eqb (x.head + 1) v.t0.len (λ z. omega (arith, st.inside)));
          tape_is = tape_by (x.head + 1) x.low _ g (omega (arith, st.ok.low_in)) (omega arith) ∙ shift_right eng.t0 a.dir0 (max x.high (x.head + 1)) i refl;
        }
    goes_of (stayed e f g) =
        let i : a.dir0 ≡ N = number-none a.dir0 (λ z. e (sym says.moves ∙ z)) (λ z. f (sym says.moves ∙ z)) in
        record {
          inside = rw i refl;
          tape_is = tape_by x.head x.low x.high g (omega (arith, st.ok.low_in)) (omega (arith, st.ok.high_in)) ∙ shift_none eng.t0 a.dir0 i;
        }

    goes : Goes
    goes = goes_of st.moved

    -- it is no proved loop
    judged : Ordinary p c v.t0.len x.head read w st.dir next x.state → Go a ≡ judge_of p m.tapes eng.state a read 0 0 (held eng.t0 c)
    judged (unasked e) = judge_off _ _ _ a _ _ _ _ e
    judged (goes_on h) = go_leaves _ _ _ a _ _ _ _ (rw says.goes h)
    judged (rewrites e h) =
        let i : a.dir0 ≡ N = number-none a.dir0 (λ z. omega (arith, says.moves)) (λ z. omega (arith, says.moves)) in
        let still : stays_all a read 0 0 ≡ false = writes_other a _ _ _ i says.still1 says.still2 (rw says.writes h) in
        go_sees _ _ _ a _ _ _ _ still (beyond_none _ _ i)
    judged (reads_one e h) = go_reads _ _ _ a _ _ _ _ (moving st.moved) h
      where
        moving : Moved st.dir x.head to → stays_all a read 0 0 ≡ false
        moving (went_left f g) = moves_left a _ _ _ (number-left a.dir0 (says.moves ∙ f))
        moving (went_right f g) = moves_right a _ _ _ (number_right a.dir0 (says.moves ∙ f))
        moving (stayed f g i) = absurd (e (omega (arith, says.moves, number_small a.dir0)))
    judged (sees_left j e l h) =
        let i : a.dir0 ≡ L = number-left a.dir0 (says.moves ∙ e) in
        go_sees _ _ _ a _ _ _ _ (moves_left a _ _ _ i) (rw i (not_blank_left eng.t0 c j h l))
    judged (sees_right j e f l g h) =
        let i : a.dir0 ≡ R = number_right a.dir0 (omega (arith, says.moves, number_small a.dir0)) in
        go_sees _ _ _ a _ _ _ _ (moves_right a _ _ _ i) (rw i (not_blank_right eng.t0 c j h l g))

    looked : look_of job σ ≡ Go a
    unfolding look_with
    looked =
        sym
        (look_judged m s p eng.state (tape0 σ) (tape1 σ) (tape2 σ) read 0 0 _ (entry_of_one m s x.state read burst_allowed.one_tape_holds)
        (reads_there eng.t0 c st.ok.head_in) (reads_none v.t1 c1 burst_allowed.none1) (reads_none v.t2 c2 burst_allowed.none2) a (Go a) (judged st.ordinary) says.is)

    roomy : roomy_of σ a ≡ true
    unfolding rooms_of room_for leaves pick both
    roomy = simp (goes.inside, says.still1, says.still2)

    step_is : conf moved (set c x.head w) c1 c2 ≡ step_of σ a
    step_is =
        (λ i. conf (record { state = state_of (sym says.goes i); steps = steps + 1; t0 = moved.t0; t1 = v.t1; t2 = v.t2 }) (set c x.head (sym says.writes i)) c1 c2)
        ∙ stepped eng c c1 c2 (set c x.head a.write0.0) c1 c2 a _ v.t1 v.t2
        (act_inside eng.t0 c a.write0.0 a.dir0 _ _ _ st.ok.head_in refl refl goes.inside goes.tape_is)
        (act_none v.t1 c1 a.write1.0 a.dir1 burst_allowed.none1) (act_none v.t2 c2 a.write2.0 a.dir2 burst_allowed.none2)

    -- the run after the step has the answer of the run before it
    ran_on : run_of job (x.left - 1) (conf moved (set c x.head w) c1 c2) ≡ run_of job x.left σ
    ran_on = rw step_is (run_next job σ _ a looked x.left st.fuel roomy (miss.misses x.state st.goes) refl)

  -- ---- a walk

  less : (x : BurstState) (c : List ℕ) (y : BurstState) (d : List ℕ) → Walk Known p stop m.symbols v.t0.len x c y d → y.left ≤ x.left
  less x c y d here = omega arith
  less x c y d (more z e w next to walk st) = let h : z.left ≤ x.left = less x c z e walk in omega arith

  -- the run from the walk's end has the answer of the run from its start: the fuel used is the number of steps made
  pub walked : (x : BurstState) (c : List ℕ) (y : BurstState) (d : List ℕ) → Walk Known p stop m.symbols v.t0.len x c y d → (steps : ℕ)
      → run_of job y.left (conf (into v (steps + (x.left - y.left)) y) d c1 c2) ≡ run_of job x.left (conf (into v steps x) c c1 c2)
  walked x c y d here steps = let z : steps + (x.left - x.left) ≡ steps = omega arith in rw z refl
  walked x c y d (more z e w next to walk st) steps =
      let h : z.left ≤ x.left = less x c z e walk in
      let f : z.left ≡ 0 → ⊥ = st.fuel in
      let n : steps + (x.left - (z.left - 1)) ≡ steps + (x.left - z.left) + 1 = omega arith in
      rw n (ran_on z e w next to st (steps + (x.left - z.left)) ∙ walked x c z e walk steps)
