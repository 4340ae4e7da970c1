-- A fresh engine fits and holds the table machine's start: "the start state, heads at 0, tape 0 holding the word from 0 rightward, all else blank".
-- Assumes nothing.
use Rattle.outcome.specs.declared.Refusal.{Refusal}
use Rattle.std.specs.Prelude.{◌≡◌, refl, Bool, true, false, List, [], ℕ, ◌+◌, ◌≤◌, ◌<◌, length, get_or, Err, Ok, Result, ⊤}
use Rattle.std.proofs.Common.{sym, ap, ◌∙◌, arith}
use Rattle.std.proofs.Math.Path.{subst, subst⁻¹}
use Rattle.notation.specs.Choice.{pick}
use Rattle.notation.proofs.Facts.Tests.{pick_cases}
use Rattle.symbol.specs.Kinds.{state_of}
use Rattle.machine.specs.declared.Machine.{Machine}
use Rattle.machine.proofs.Facts.Check.{ranges}
use Rattle.machine.proofs.Facts.Word.{word_says}
use Rattle.table_machine.specs.TableMachine.{blank_tape, start}
use Rattle.tape.specs.declared.Tape.{Tape}
use Rattle.tape.specs.Model.Moves.{held, fresh_of}
use Rattle.tape.proofs.Facts.Moves.{fresh_fits}
use Rattle.run_checks.specs.Model.Sizes as Sizes
use Rattle.run_checks.proofs.Facts.SizesCases.{blank_room}
use Rattle.sim.specs.declared.Simulator.{Simulator}
use Rattle.sim.specs.Model.Engine.{Conf, conf, tape0, tape1, tape2}
use Rattle.sim.specs.Model.Operations.{has1, has2, hand_back, sim_fits, fresh_check, made, made_with, fresh_on, Made, new_answer}
use Rattle.sim.proofs.Facts.OperationCases.{FreshPassed, fresh_says}
use Rattle.sim_refines.specs.Meaning.{tape_of, has, tape_if, config_of, FitsIf, EngineFits}
use Rattle.sim_refines.specs.Lent.{PastKept}
use Rattle.sim_refines.proofs.Facts.Tape.{fresh_tape_lem}
use Rattle.sim_refines.proofs.Facts.MissingTapes.{back_fits}
use Rattle.sim_refines.proofs.Facts.PastLength.{word-stays, blank_stays}

-- ---- an engine on fresh tapes

fresh_tape_if : (b : Bool) (c : List ℕ) → (b ≡ true → 32 ≤ length c) → tape_if b (Sizes.blank_tape b c) ≡ blank_tape
unfolding pick
fresh_tape_if true c room = fresh_tape_lem [] c (omega (arith, room refl))
fresh_tape_if false c room = refl

fresh_fits_if : (k : ℕ) → 1 ≤ k → (b : Bool) (c : List ℕ) → (b ≡ true → 32 ≤ length c) → FitsIf b k (Sizes.blank_tape b c)
unfolding pick
fresh_fits_if k l true c room = fresh_fits k [] c (omega (arith, room refl)) l (λ i h. absurd (omega arith))
fresh_fits_if k l false c room = refl

module _ (m : Machine) (w c0 c1 c2 : List ℕ) (room0 : 32 + length w ≤ length c0) (room1 : has m 1 ≡ true → 32 ≤ length c1) (room2 : has m 2 ≡ true → 32 ≤ length c2)
    (σ : Conf) (state_is : σ.sim.state ≡ state_of m.start) (steps-is : σ.sim.steps ≡ 0)
    (is0 : tape0 σ ≡ fresh_of w c0) (is1 : tape1 σ ≡ Sizes.blank_tape (has m 1) c1) (is2 : tape2 σ ≡ Sizes.blank_tape (has m 2) c2) where
  pub fresh_holds : config_of m σ ≡ start m.start w
  fresh_holds = λ i. record {
    state = (state_is i).0;
    steps = steps-is i;
    tape0 = (ap tape_of is0 ∙ fresh_tape_lem w c0 room0) i;
    tape1 = (ap (tape_if (has m 1)) is1 ∙ fresh_tape_if (has m 1) c1 room1) i;
    tape2 = (ap (tape_if (has m 2)) is2 ∙ fresh_tape_if (has m 2) c2 room2) i;
  }

  pub fresh_engine_fits : 1 ≤ m.symbols → m.start < m.states → ((i : ℕ) → i < length w → get_or w i 0 < m.symbols) → EngineFits m σ
  fresh_engine_fits l b s = record {
    state_in_holds = rw state_is b;
    steps_in = omega arith;
    fits0 = subst⁻¹ (FitsIf true m.symbols) is0 (fresh_fits m.symbols w c0 room0 l s);
    fits1 = subst⁻¹ (FitsIf (has m 1) m.symbols) is1 (fresh_fits_if m.symbols l (has m 1) c1 room1);
    fits2 = subst⁻¹ (FitsIf (has m 2) m.symbols) is2 (fresh_fits_if m.symbols l (has m 2) c2 room2);
  }

-- ---- what `new` gives

accepted-fresh : (c : Result ⊤ Refusal) (c0 c1 c2 : List ℕ) (d : Made) (v : Simulator) (d0 d1 d2 : List ℕ) → fresh_on c c0 c1 c2 d ≡ made (Ok v) d0 d1 d2
    → (c ≡ Ok tt) × (d ≡ made (Ok v) d0 d1 d2)
accepted-fresh (Err why) c0 c1 c2 d v d0 d1 d2 e =
    let k = ap (λ (g : Made). g.answer) e in
    let z : ◌≡◌ {A = ℕ} 0 1 = cc in absurd (omega arith)
accepted-fresh (Ok tt) c0 c1 c2 d v d0 d1 d2 e = (refl, e)

module _ (m : Machine) (s w c0 c1 c2 : List ℕ) (v : Simulator) (d0 d1 d2 : List ℕ) (done : new_answer m s w c0 c1 c2 ≡ made (Ok v) d0 d1 d2) where
  pub new_accepted : (fresh_check m s w (length c0) (length c1) (length c2) ≡ Ok tt)
      × (made_with m (fresh_of w c0) (Sizes.blank_tape (has1 m) c1) (Sizes.blank_tape (has2 m) c2) ≡ made (Ok v) d0 d1 d2)
  unfolding new_answer
  new_accepted = accepted-fresh _ _ _ _ _ _ _ _ _ done

  new_passed : FreshPassed m s w (length c0) (length c1) (length c2)
  new_passed = fresh_says m s w _ _ _ new_accepted.0

  abbrev engine : Conf
  engine = conf v d0 d1 d2

  sim_is : v ≡ record { state = state_of m.start; steps = 0; t0 = (fresh_of w c0).tape; t1 = (Sizes.blank_tape (has1 m) c1).tape; t2 = (Sizes.blank_tape (has2 m) c2).tape }
  sim_is = let k = ap (λ (g : Made). g.answer) new_accepted.1 in cc

  is0 : tape0 engine ≡ fresh_of w c0
  is0 = λ i. held (sim_is i).t0 (sym (ap (λ (x : Made). x.c0) new_accepted.1) i)

  is1 : tape1 engine ≡ Sizes.blank_tape (has m 1) c1
  is1 = λ i. held (sim_is i).t1 (sym (ap (λ (x : Made). x.c1) new_accepted.1) i)

  is2 : tape2 engine ≡ Sizes.blank_tape (has m 2) c2
  is2 = λ i. held (sim_is i).t2 (sym (ap (λ (x : Made). x.c2) new_accepted.1) i)

  start_state : v.state ≡ state_of m.start
  start_state = ap (λ (u : Simulator). u.state) sim_is

  start_steps : v.steps ≡ 0
  start_steps = ap (λ (u : Simulator). u.steps) sim_is

  -- it holds the start configuration, with the word on tape 0, and fits
  pub new_holds : config_of m engine ≡ start m.start w
  new_holds = fresh_holds m w c0 c1 c2 new_passed.room0 (blank_room (has m 1) _ new_passed.room1) (blank_room (has m 2) _ new_passed.room2) engine start_state start_steps is0 is1 is2

  new_engine : EngineFits m engine
  new_engine =
      let r = ranges m s new_passed.table in
      fresh_engine_fits m w c0 c1 c2 new_passed.room0 (blank_room (has m 1) _ new_passed.room1) (blank_room (has m 2) _ new_passed.room2) engine start_state start_steps is0 is1 is2
      r.symbols_low r.start_in (word_says m.symbols w new_passed.word).1

  pub new_fits : sim_fits m v d0 d1 d2 ≡ true
  unfolding hand_back
  new_fits = subst (λ (u : Simulator). sim_fits m u d0 d1 d2 ≡ true) same (back_fits m engine engine new_engine)
    where
      either : (b : Bool) (t : Tape) → pick b t t ≡ t
      either b t = pick_cases b t t (λ (x : Tape). x ≡ t) (λ _. refl) (λ _. refl)

      same : hand_back m.tapes v v ≡ v
      same = λ i. record { state = v.state; steps = v.steps; t0 = v.t0; t1 = either (has m 1) v.t1 i; t2 = either (has m 2) v.t2 i }

  pub new_past : PastKept c0 c1 c2 engine
  new_past = record {
    past0 = word-stays w c0 (tape0 engine) is0;
    past1 = blank_stays (has m 1) c1 (tape1 engine) is1;
    past2 = blank_stays (has m 2) c2 (tape2 engine) is2;
  }
