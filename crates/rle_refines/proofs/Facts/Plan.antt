-- The engine's plan is the right one for the table machine's configuration. Assumes nothing.
use Rattle.rle_macro.specs.declared.inner.macro_step.Step.{Step}
use Rattle.outcome.specs.declared.Outcome.{Outcome}
use Rattle.std.specs.declared.ops.ControlFlow.{ControlFlow}
use Rattle.std.specs.Prelude.{◌≡◌, refl, Bool, true, false, ℕ, ◌≤◌, ◌<◌, eqb, None, Option, Some}
use Rattle.std.proofs.Common.{sym, ◌∙◌, arith}
use Rattle.std.proofs.Math.Path.{subst}
use borrow.Author.Tests.{eqb-true, eqb-false}
use Rattle.notation.specs.Choice.{pick, both}
use Rattle.notation.proofs.Facts.Tests.{clash, pick_cases}
use Rattle.symbol.specs.declared.Dir.{Dir}
use Rattle.symbol.specs.declared.Dir.TheVariants.{L, R, N}
use Rattle.outcome.specs.declared.NonHaltProof.{NonHaltProof}
use Rattle.outcome.specs.declared.Outcome.TheVariants.{OutOfFuel, NeverHalts, Stopped, Full}
use Rattle.machine.specs.declared.Action.{Action}
use Rattle.table_laws.specs.WellFormed.{ActionOf}
use Rattle.table_machine.specs.TableMachine.{entry, Halted, halted_at, Walks, stays, walks, goes}
use Rattle.table_machine.specs.Tables.{table_of, TableOf}
use Rattle.run_checks.specs.Model.Look.{entry_of}
use Rattle.run_rules.specs.Model.Task.{Task, matches}
use Rattle.rle_macro.specs.Model.MacroStep.{times_for}
use Rattle.rle.specs.Model.Engine.{Conf, left_of, right_of, proof_of, chain_for, fueled_of, proved_of, turn_on, turn_of, plan_by, plan_of, Plan, Stop, Go}
use Rattle.rle_refines.specs.Meaning.{Stack, empty, stack_of, config_of, ChainFits}
use Rattle.rle_refines.specs.Statement.{table_in, Judged, Unproved, has_rule, is_full}
use Rattle.rle_refines.proofs.Facts.Stack.{Reach, reach_blank, reach-none, reach-run}
use Rattle.rle_refines.proofs.Facts.Sides.{ahead_is}
use Rattle.rle_refines.proofs.Facts.MacroStep.{macro, read_held, entry_at_lem, Over}
use Rattle.rle_refines.proofs.Facts.Patterns.{Sees, unsure, stay, walk, walks_empty, loop_sees}

-- ---- how many repeats

-- an entry can be made n times in a row, and each smaller number of times too
pub record Repeats (σ : Conf) (a : Action) (fuel n : ℕ) : Type 0 where
  pub some : 1 ≤ n
  pub within : n ≤ fuel
  pub keeps : (j : ℕ) → j < n → 1 ≤ j → a.next.0 ≡ σ.sim.state.0
  pub way : (j : ℕ) → j < n → Over a.dir0 a.write0.0 j σ

reach_clear : (c j : ℕ) (r : Stack) → c ≡ 0 → r ≡ empty → Reach c j r
reach_clear c j r z e = rw (z, e) (reach_blank j)

over_none : (x : Dir) (w : ℕ) (σ : Conf) → Over x w 0 σ
over_none L w σ = reach-none σ.sim.tape.cur (stack_of (left_of σ))
over_none R w σ = reach-none σ.sim.tape.cur (stack_of (right_of σ))
over_none N w σ = λ l. absurd (omega arith)

module _ (k : Task) (single : k.machine.tapes ≡ 1) (σ : Conf) (f : ChainFits k.machine σ) (a : Action) (of_machine : ActionOf k.machine a) (fuel : ℕ) (more : 1 ≤ fuel) where
  once : Repeats σ a fuel 1
  once = record {
    some = omega arith;
    within = more;
    keeps = λ j l g. absurd (omega arith);
    way = λ j l. let e : 0 ≡ j = omega arith in rw (← e) (over_none a.dir0 a.write0.0 σ);
  }

  chain_repeats : a.next.0 ≡ σ.sim.state.0 → (x : Dir) → a.dir0 ≡ x → Repeats σ a fuel (chain_for x σ.sim.tape.cur fuel (left_of σ) (right_of σ))
  unfolding chain_for
  chain_repeats q L n = record {
    some = omega arith;
    within = omega arith;
    keeps = λ j l g. q;
    way = λ j l. subst (λ x. Over x a.write0.0 j σ) (sym n)
        (reach-run σ.sim.tape.cur j (stack_of (left_of σ)) (omega (arith, ahead_is σ.sim.tape.cur σ.ls σ.ll σ.sim.tape.left)));
  }
  chain_repeats q R n = record {
    some = omega arith;
    within = omega arith;
    keeps = λ j l g. q;
    way = λ j l. subst (λ x. Over x a.write0.0 j σ) (sym n)
        (reach-run σ.sim.tape.cur j (stack_of (right_of σ)) (omega (arith, ahead_is σ.sim.tape.cur σ.rs σ.rl σ.sim.tape.right)));
  }
  chain_repeats q N n = once

  over_blank : (x : Dir) → Walks k.machine.tapes (config_of σ) a x → (j : ℕ) → Over x a.write0.0 j σ
  over_blank L w j = reach_clear _ j _ (sym (read_held σ) ∙ w.blank) (walks_empty k single σ f a of_machine L w)
  over_blank R w j = reach_clear _ j _ (sym (read_held σ) ∙ w.blank) (walks_empty k single σ f a of_machine R w)
  over_blank N w j = absurd w.sideways

  -- "a macro step is one step; where the entry keeps the state and moves, it is the run ahead .. plus one, or the fuel if less; a proved loop covers all the fuel"
  repeats_right : {b : Bool} → Sees k σ a b → Repeats σ a fuel (times_for a.dir0 b (eqb a.next.0 σ.sim.state.0) σ.sim.tape.cur fuel (left_of σ) (right_of σ))
  unfolding pick
  repeats_right (unsure h g) = pick_cases (eqb a.next.0 σ.sim.state.0) _ _ (Repeats σ a fuel) (λ t. chain_repeats (eqb-true _ _ t) a.dir0 refl) (λ t. once)
  repeats_right (stay h) = record {
    some = more;
    within = omega arith;
    keeps = λ j l g. h.keeps;
    way = λ j l. subst (λ x. Over x a.write0.0 j σ) (sym h.still0) (λ g. h.same0 ∙ read_held σ);
  }
  repeats_right (walk x w) = record {
    some = more;
    within = omega arith;
    keeps = λ j l g. w.same_state;
    way = λ j l. subst (λ x. Over x a.write0.0 j σ) (sym w.moves) (over_blank x w j);
  }

-- ---- the plan

pub data Plans (k : Task) (fuel : ℕ) (σ : Conf) : Plan → Type 0 where
  no_entry : Halted (table_in k) (config_of σ) → Plans k fuel σ (Stop (halted_at (config_of σ)))
  loops : (p : NonHaltProof) → k.proves ≡ true → Judged k (config_of σ) (NeverHalts σ.sim.steps p) → Plans k fuel σ (Stop (NeverHalts σ.sim.steps p))
  spent : (a : Action) → entry (table_in k) (config_of σ) ≡ Some a → Unproved k (config_of σ) → 0 ≡ fuel → Plans k fuel σ (Stop (OutOfFuel σ.sim.steps))
  stops : (a : Action) → entry (table_in k) (config_of σ) ≡ Some a → Unproved k (config_of σ) → 0 < fuel → has_rule k (config_of σ) ≡ true → Plans k fuel σ (Stop (Stopped σ.sim.steps))
  lacks_place : (a : Action) → entry (table_in k) (config_of σ) ≡ Some a → Unproved k (config_of σ) → 0 < fuel → has_rule k (config_of σ) ≡ false → is_full σ a ≡ true
      → Plans k fuel σ (Stop (Full σ.sim.steps))
  macro_steps : (a : Action) (n : ℕ) → entry (table_in k) (config_of σ) ≡ Some a → Unproved k (config_of σ) → has_rule k (config_of σ) ≡ false → is_full σ a ≡ false → Repeats σ a fuel n
      → Plans k fuel σ (Go (macro a n))

module _ (k : Task) (table : TableOf k.machine (table_in k)) (single : k.machine.tapes ≡ 1) (fuel : ℕ) (σ : Conf) (f : ChainFits k.machine σ) where
  entry_read : entry (table_in k) (config_of σ) ≡ entry_of k.machine k.table σ.sim.state σ.sim.tape.cur 0 0
  unfolding table_of entry_of
  entry_read = entry_at_lem (table_in k) σ

  module _ (a : Action) (e : entry (table_in k) (config_of σ) ≡ Some a) where
    of_machine : ActionOf k.machine a
    of_machine = table _ _ _ _ a e

    abbrev PlansBy : ControlFlow Outcome Step → Type 0
    PlansBy t = Plans k fuel σ (plan_by t fuel σ)

    fuel_plans : {b : Bool} → Sees k σ a b → Unproved k (config_of σ) → PlansBy (fueled_of b k.rule a fuel σ.sim)
    unfolding fueled_of
    fuel_plans s u = pick_cases (eqb fuel 0) _ _ PlansBy
        (λ t. spent a e u (sym (eqb-true _ _ t)))
        (λ t. let l : 0 < fuel = omega (arith, eqb-false fuel 0 t) in
        pick_cases (matches k.rule σ.sim.state) _ _ PlansBy
        (λ r. stops a e u l r)
        (λ r. pick_cases (is_full σ a) _ _ (Plans k fuel σ)
        (λ g. lacks_place a e u l r g)
        (λ g. macro_steps a _ e u r g (repeats_right k single σ f a of_machine fuel l s))))

    -- a proved loop is answered where the never test is made
    loop_plans : Sees k σ a true → Judged k (config_of σ) (NeverHalts σ.sim.steps (proof_of σ.sim.state a.dir0)) → PlansBy (proved_of k.proves true k.rule a fuel σ.sim)
    unfolding proved_of both
    loop_plans s v = pick_cases k.proves _ _ PlansBy (λ t. loops _ t v) (λ t. fuel_plans s (λ y. absurd (clash y t)))

    proved_plans : {b : Bool} → Sees k σ a b → PlansBy (proved_of k.proves b k.rule a fuel σ.sim)
    unfolding proved_of both pick proof_of
    proved_plans (unsure h g) = fuel_plans (unsure h g) (λ t. goes a e h g)
    proved_plans (stay h) = loop_plans (stay h) (rw h.still0 (stays a e h))
    proved_plans (walk x w) = loop_plans (walk x w) (walked x w)
      where
        walked : (x : Dir) → Walks k.machine.tapes (config_of σ) a x → Judged k (config_of σ) (NeverHalts σ.sim.steps (proof_of σ.sim.state a.dir0))
        walked L w = rw w.moves (walks a L e w)
        walked R w = rw w.moves (walks a R e w)
        walked N w = absurd w.sideways

  pub plan_right : Plans k fuel σ (plan_of k fuel σ)
  unfolding plan_of turn_of turn_on
  plan_right = by (entry_of k.machine k.table σ.sim.state σ.sim.tape.cur 0 0) entry_read
    where
      by : (x : Option Action) → entry (table_in k) (config_of σ) ≡ x → Plans k fuel σ (plan_by (turn_on x k.proves k.rule fuel σ.sim) fuel σ)
      by None e = no_entry e
      by (Some a) e = proved_plans a e (loop_sees k single σ f a (of_machine a e))
