-- What the functions of a run answer, a lemma for each return. Assumes nothing.
use Rattle.rle_macro.specs.declared.inner.macro_step.Step.{Step}
use Rattle.outcome.specs.declared.Outcome.{Outcome}
use Rattle.std.specs.declared.ops.ControlFlow.{ControlFlow}
use Rattle.std.specs.declared.ops.ControlFlow.TheVariants.{Break, Continue}
use Rattle.std.specs.Prelude.{◌≡◌, Bool, true, false, ℕ, ◌+◌, min, max, eqb, None, Option, Some}
use Rattle.std.proofs.Math.Path.{sym, ap}
use Rattle.std.proofs.Common.{◌∙◌, eq-eqb, ne_eqb}
use Rattle.notation.specs.Choice.{both}
use Rattle.notation.proofs.Facts.Tests.{pick_true, pick_false}
use Rattle.symbol.specs.declared.State.{State}
use Rattle.symbol.specs.declared.Dir.{Dir}
use Rattle.outcome.specs.declared.NonHaltProof.{NonHaltProof}
use Rattle.outcome.specs.declared.Outcome.TheVariants.{Halted, OutOfFuel, NeverHalts, Stopped}
use Rattle.machine.specs.declared.Action.{Action}
use Rattle.run_checks.specs.Model.Look.{entry_of}
use Rattle.run_rules.specs.Model.Task.{Task, matches}
use Rattle.rle_macro.specs.Model.MacroStep.{loops_for, proof_of, head_for}
use Rattle.rle.specs.declared.ChainSim.{ChainSim}
use Rattle.rle_counts.specs.Model.Counts.{Tally, tallied}
use Rattle.rle_counts.proofs.Facts.CountCases.{then_spent, then_stops, then_goes, tally_made}
use Rattle.rle.specs.Model.Engine.{loops_of, fueled_of, proved_of, turn_on, turn_of, tally_of, sim_with}
use Rattle.rle.specs.Invariants.{landed_by}

-- ---- a proved loop

pub loops_leaves : (q : State) (a : Action) (cur l r : ℕ) → (a.next.0 ≡ q.0 → ⊥) → false ≡ loops_of q a cur l r
unfolding both
loops_leaves q a cur l r h = rw (ne_eqb a.next.0 q.0 h)

pub loops_keeps : (q : State) (a : Action) (cur l r : ℕ) (x : Bool) → a.next.0 ≡ q.0 → x ≡ loops_for a.dir0 a.write0.0 cur l r → x ≡ loops_of q a cur l r
unfolding both
loops_keeps q a cur l r x h p = rw (p, eq-eqb a.next.0 q.0 h)

-- ---- what comes next

module _ (loops : Bool) (rule : Option State) (a : Action) (fuel : ℕ) (v : ChainSim) where
  pub fuel_none : fuel ≡ 0 → Break (OutOfFuel v.steps) ≡ fueled_of loops rule a fuel v
  unfolding fueled_of
  fuel_none e = then_spent Break fuel v.steps _ _ e

  pub fuel_stops : (fuel ≡ 0 → ⊥) → (b : Bool) → b ≡ matches rule v.state → b ≡ true → Break (Stopped v.steps) ≡ fueled_of loops rule a fuel v
  unfolding fueled_of
  fuel_stops h b bp e = then_stops Break fuel v.steps _ _ h (sym bp ∙ e)

  pub fuel_goes : (fuel ≡ 0 → ⊥) → (b : Bool) → b ≡ matches rule v.state → b ≡ false → (k : Bool) → k ≡ eqb a.next.0 v.state.0
      → Continue (record { write = a.write0.0; dir = a.dir0; next = a.next; keeps = k; loops = loops }) ≡ fueled_of loops rule a fuel v
  unfolding fueled_of
  fuel_goes h b bp e k kp = rw kp (then_goes Break fuel v.steps _ _ h (sym bp ∙ e))

pub asked_loops : (loops proves : Bool) → loops ≡ true → proves ≡ both loops proves
unfolding both
asked_loops loops proves e = rw e

pub asked_none : (loops proves : Bool) → loops ≡ false → false ≡ both loops proves
unfolding both
asked_none loops proves e = rw e

module _ (k : Task) (fuel : ℕ) (v : ChainSim) (e : Option Action) (ep : e ≡ entry_of k.machine k.table v.state v.tape.cur 0 0) where
  pub turn_halts : e ≡ None → Break (Halted v.steps v.state) ≡ turn_of k fuel v
  unfolding turn_of turn_on
  turn_halts z = sym (ap (λ (x : Option Action). turn_on x k.proves k.rule fuel v) (sym ep ∙ z))

  module _ (a : Action) (z : e ≡ Some a) (b : Bool) (bp : b ≡ loops_of v.state a v.tape.cur v.tape.left v.tape.right) where
    on_entry : proved_of k.proves b k.rule a fuel v ≡ turn_of k fuel v
    unfolding turn_of turn_on
    on_entry = ap (λ (x : Bool). proved_of k.proves x k.rule a fuel v) bp ∙ sym (ap (λ (x : Option Action). turn_on x k.proves k.rule fuel v) (sym ep ∙ z))

    module _ (c : Bool) (cp : c ≡ both b k.proves) where
      pub turn_never : c ≡ true → (x : NonHaltProof) → x ≡ proof_of v.state a.dir0 → Break (NeverHalts v.steps x) ≡ turn_of k fuel v
      unfolding proved_of
      turn_never y x q = ap (λ (x : NonHaltProof). Break (NeverHalts v.steps x)) q ∙ sym (pick_true (both b k.proves) _ _ (sym cp ∙ y)) ∙ on_entry

      pub turn_goes : c ≡ false → (x : ControlFlow Outcome Step) → x ≡ fueled_of b k.rule a fuel v → x ≡ turn_of k fuel v
      unfolding proved_of
      turn_goes y x h = h ∙ sym (pick_false (both b k.proves) _ _ (sym cp ∙ y)) ∙ on_entry

-- ---- the value after a macro step

pub landed_made : (d : Dir) (q : State) (v : ChainSim) (left cur right n head lo hi : ℕ) → head ≡ head_for d v.tape.head n → lo ≡ min v.lowest head → hi ≡ max v.highest head
    → record {
      state = q;
      steps = v.steps + n;
      macros = v.macros + 1;
      tape = record { left = left; cur = cur; right = right; head = head };
      lowest = lo;
      highest = hi;
    }
    ≡ landed_by d q v left cur right n
landed_made d q v left cur right n head lo hi p a b =
    ap (λ (t : Tally). sim_with q t left cur right) (tally_made (tally_of v) n head lo hi a b)
    ∙ ap (λ (h : ℕ). sim_with q (tallied (tally_of v) n h) left cur right) p
