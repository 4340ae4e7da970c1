-- The decision before a step, one fact for each path through the code. Assumes nothing.
use Rattle.outcome.specs.declared.Outcome.{Outcome}
use Rattle.std.specs.declared.ops.ControlFlow.{ControlFlow}
use Rattle.std.specs.declared.ops.ControlFlow.TheVariants.{Break, Continue}
use Rattle.std.specs.Prelude.{◌≡◌, Bool, true, false, List, ℕ, length, None, Option, Some}
use Rattle.std.proofs.Common.{sym}
use borrow.Author.Tests.{eq-eqb, ne_eqb}
use Rattle.notation.specs.Choice.{pick, both}
use Rattle.symbol.specs.declared.State.{State}
use Rattle.outcome.specs.declared.NonHaltProof.{NonHaltProof}
use Rattle.outcome.specs.declared.NonHaltProof.TheVariants.{StayLoop, ChainToInfinity}
use Rattle.outcome.specs.declared.Outcome.TheVariants.{Halted, OutOfFuel, NeverHalts, Full}
use Rattle.machine.specs.declared.Machine.{Machine}
use Rattle.machine.specs.declared.Action.{Action}
use Rattle.machine.specs.Layout.{stride_of, entry_number, entry_at}
use Rattle.tape.specs.Model.Moves.{Held, read_of}
use Rattle.tape.specs.Model.Questions.{blank_beyond}
use Rattle.run_checks.specs.declared.inner.look.Look.{Look}
use Rattle.run_checks.specs.declared.inner.look.Look.TheVariants.{Halt, Never, Go}
use Rattle.run_checks.specs.Model.Look.{stays_all, loop_of, judge_of, look_on, entry_of, look_at, rooms_of, go_of, choice_at}

pub entry_is : (m : Machine) (s : List ℕ) (q : State) (r0 r1 r2 number stride : ℕ) (e : Option Action) → e ≡ entry_at s number
    → number ≡ entry_number m.symbols stride q.0 r0 r1 r2 → stride ≡ stride_of m → e ≡ entry_of m s q r0 r1 r2
unfolding entry_of
entry_is m s q r0 r1 r2 number stride e p n k = rw (p, n, k)

-- ---- an entry that keeps the state

module _ (tapes : ℕ) (q : State) (a : Action) (r0 r1 r2 : ℕ) (h : Held) (st : Bool) (is : st ≡ stays_all a r0 r1 r2) where
  pub loop_stays : st ≡ true → Never (StayLoop q) ≡ loop_of tapes q a r0 r1 r2 h
  unfolding loop_of pick
  loop_stays e = simp (← is, e)

  module _ (moves : st ≡ false) where
    pub loop_several : (tapes ≡ 1 → ⊥) → Go a ≡ loop_of tapes q a r0 r1 r2 h
    unfolding loop_of pick both
    loop_several n = simp (← is, moves, ne_eqb _ _ n)

    module _ (one : tapes ≡ 1) where
      pub loop_reads : (r0 ≡ 0 → ⊥) → Go a ≡ loop_of tapes q a r0 r1 r2 h
      unfolding loop_of pick both
      loop_reads n = simp (← is, moves, eq-eqb _ _ one, ne_eqb _ _ n)

      module _ (blank : r0 ≡ 0) (b : Bool) (beyond : b ≡ blank_beyond h a.dir0) where
        pub loop_chain : b ≡ true → Never (ChainToInfinity q a.dir0) ≡ loop_of tapes q a r0 r1 r2 h
        unfolding loop_of pick both
        loop_chain e = simp (← is, moves, eq-eqb _ _ one, eq-eqb _ _ blank, ← beyond, e)

        pub loop_goes : b ≡ false → Go a ≡ loop_of tapes q a r0 r1 r2 h
        unfolding loop_of pick both
        loop_goes e = simp (← is, moves, eq-eqb _ _ one, eq-eqb _ _ blank, ← beyond, e)

module _ (p : Bool) (tapes : ℕ) (q : State) (a : Action) (r0 r1 r2 : ℕ) (h : Held) where
  pub judge_off : p ≡ false → Go a ≡ judge_of p tapes q a r0 r1 r2 h
  unfolding judge_of pick both
  judge_off e = simp e

  pub judge_leaves : p ≡ true → (a.next.0 ≡ q.0 → ⊥) → Go a ≡ judge_of p tapes q a r0 r1 r2 h
  unfolding judge_of pick both
  judge_leaves e n = simp (e, ne_eqb _ _ n)

  pub judge_loop : (x : Look) → x ≡ loop_of tapes q a r0 r1 r2 h → p ≡ true → a.next.0 ≡ q.0 → x ≡ judge_of p tapes q a r0 r1 r2 h
  unfolding judge_of pick both
  judge_loop x l e k = simp (e, eq-eqb _ _ k, l)

-- ---- the look

module _ (m : Machine) (s : List ℕ) (p : Bool) (q : State) (h0 h1 h2 : Held) (r0 r1 r2 : ℕ) (e : Option Action)
    (found : e ≡ entry_of m s q r0 r1 r2) (q0 : r0 ≡ read_of h0) (q1 : r1 ≡ read_of h1) (q2 : r2 ≡ read_of h2) where
  is_entry : entry_of m s q (read_of h0) (read_of h1) (read_of h2) ≡ e
  is_entry = rw (← q0, ← q1, ← q2) (sym found)

  pub look_halt : e ≡ None → Halt ≡ look_at m s p q h0 h1 h2
  unfolding look_on
  look_halt z = rw (is_entry, z)

  pub look_judged : (a : Action) (x : Look) → x ≡ judge_of p m.tapes q a r0 r1 r2 h0 → e ≡ Some a → x ≡ look_at m s p q h0 h1 h2
  unfolding look_on
  look_judged a x j z = rw (is_entry, z) (rw (← q0, ← q1, ← q2) j)

-- ---- the choice

module _ (a : Action) (left steps : ℕ) (roomy : Bool) where
  pub go_fuel : left ≡ 0 → Break (OutOfFuel steps) ≡ go_of a left steps roomy
  unfolding go_of pick
  go_fuel h = simp (eq-eqb left 0 h)

  pub go_on : (left ≡ 0 → ⊥) → roomy ≡ true → Continue a ≡ go_of a left steps roomy
  unfolding go_of pick
  go_on h q = simp (ne_eqb left 0 h, q)

  pub go_full : (left ≡ 0 → ⊥) → roomy ≡ false → Break (Full steps) ≡ go_of a left steps roomy
  unfolding go_of pick
  go_full h q = simp (ne_eqb left 0 h, q)

module _ (m : Machine) (s : List ℕ) (p : Bool) (left steps : ℕ) (q : State) (h0 h1 h2 : Held) (l : Look) (e : l ≡ look_at m s p q h0 h1 h2) where
  pub choice_halt : l ≡ Halt → Break (Halted steps q) ≡ choice_at m s p left steps q h0 h1 h2
  unfolding choice_at
  choice_halt z = simp (← e, z)

  pub choice_never : (n : NonHaltProof) → l ≡ Never n → Break (NeverHalts steps n) ≡ choice_at m s p left steps q h0 h1 h2
  unfolding choice_at
  choice_never n z = simp (← e, z)

  pub choice_go : (a : Action) (x : ControlFlow Outcome Action) (roomy : Bool)
      → roomy ≡ rooms_of h0.tape h1.tape h2.tape (length h0.cells) (length h1.cells) (length h2.cells) a
      → x ≡ go_of a left steps roomy → l ≡ Go a → x ≡ choice_at m s p left steps q h0 h1 h2
  unfolding choice_at
  choice_go a x roomy r g z = simp (← e, z, g, r)
