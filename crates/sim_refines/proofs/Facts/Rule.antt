-- "a `from` state, one not below n never matching": with such a rule the run and the fast run answer as without a rule. Assumes nothing.
use Rattle.outcome.specs.declared.Refusal.{Refusal}
use Rattle.std.specs.Prelude.{◌≡◌, Bool, false, List, Err, None, Ok, Result, Some, ⊤}
use Rattle.std.proofs.Math.Path.{refl, sym, ap}
use Rattle.std.proofs.Common.{◌∙◌, arith}
use Rattle.std.proofs.Math.Bool.{true}
use Prim.Native.Nat.{ℕ, zero, suc, ◌+◌, ◌≤◌, ◌^◌}
use borrow.Author.Tests.{ne_eqb}
use Rattle.notation.specs.Choice.{pick}
use Rattle.notation.proofs.Facts.Tests.{by_test, pick_false}
use Rattle.symbol.specs.declared.State.{State}
use Rattle.machine.specs.declared.Machine.{Machine}
use Rattle.machine.specs.declared.Action.{Action}
use Rattle.table_laws.specs.WellFormed.{Bytes}
use Rattle.table_machine.specs.Tables.{table_of, TableOf}
use Rattle.table_machine.proofs.Facts.Table.{accepted_table}
use Rattle.run_checks.specs.declared.inner.look.Look.{Look}
use Rattle.sim.specs.Model.Engine.{Task, task, Conf, on_look, matches, halted_end, never_end, full_end, stopped_end, roomy_of, step_of, run_with, run_of}
use Rattle.sim.specs.Model.Operations.{bare_sim, bare_of, run_check, fast_check, ran_back, answer_of, run_answer, fast_answer}
use Rattle.sim.proofs.Facts.OperationCases.{run_says, fast_runs}
use Rattle.sim_refines.specs.Meaning.{config_of, EngineFits}
use Rattle.sim_refines.specs.Statement.{Kept, Sees, no_entry, loops, goes_on}
use Rattle.sim_refines.proofs.Facts.Step.{step_keeps}
use Rattle.sim_refines.proofs.Facts.Look.{look_sees}
use Rattle.sim_refines.proofs.Facts.MissingTapes.{bare_fits}

-- ---- the run: every engine value in it fits, so that its state is below n

module _ (m : Machine) (s : List ℕ) (table : TableOf m (table_of m s)) (proves : Bool) (p : State) (off : m.states ≤ p.0) where
  abbrev ruled : Task
  ruled = task m s proves (Some p)

  abbrev free : Task
  free = task m s proves None

  unmatched : (σ : Conf) → EngineFits m σ → matches (Some p) σ.sim.state ≡ false
  unfolding matches
  unmatched σ f = ne_eqb p.0 σ.sim.state.0 (λ e. omega (arith, f.state_in_holds))

  counted : (σ : Conf) (a : Action) → (step_of σ a).sim.steps ≡ σ.sim.steps + 1
  unfolding step_of
  counted σ a = refl

  same_run : (fuel : ℕ) (σ : Conf) → EngineFits m σ → σ.sim.steps + fuel ≤ 2 ^ 62 → run_of ruled fuel σ ≡ run_of free fuel σ
  unfolding run_of run_with matches
  same_run zero σ f small = refl
  same_run (suc fuel) σ f small = by (λ a. same_run fuel (step_of σ a)) (look_sees free σ f)
    where
      by : ((a : Action) → EngineFits m (step_of σ a) → (step_of σ a).sim.steps + fuel ≤ 2 ^ 62 → run_of ruled fuel (step_of σ a) ≡ run_of free fuel (step_of σ a))
          → {x : Look} → Sees free (config_of m σ) x
          → on_look x (halted_end σ) (never_end σ)
          (λ a. pick (roomy_of σ a) (pick (matches (Some p) σ.sim.state) (stopped_end (step_of σ a)) (run_of ruled fuel (step_of σ a))) (full_end σ))
          ≡ on_look x (halted_end σ) (never_end σ)
          (λ a. pick (roomy_of σ a) (pick (matches None σ.sim.state) (stopped_end (step_of σ a)) (run_of free fuel (step_of σ a))) (full_end σ))
      by on (no_entry h) = refl
      by on (loops q t v) = refl
      by on (goes_on a e u) = by_test (roomy_of σ a)
          (λ r.
          let k : Kept m σ (step_of σ a) = step_keeps m s σ f table a e r (omega arith) in
          ap (λ x. pick (roomy_of σ a) x (full_end σ))
          (pick_false _ _ _ (unmatched σ f) ∙ on a k.fits (omega (arith, counted σ a)) ∙ sym (pick_false _ _ _ refl)))
          (λ r. pick_false _ _ _ r ∙ sym (pick_false _ _ _ r))

-- ---- the operations

module _ (m : Machine) (s : List ℕ) (bytes : Bytes s) (p : State) (fuel : ℕ) (σ : Conf) (off : m.states ≤ p.0) where
  same_answer : (c : Result ⊤ Refusal) → (c ≡ Ok tt → run_check m s fuel σ ≡ Ok tt) → answer_of c m s true (Some p) fuel σ ≡ answer_of c m s true None fuel σ
  unfolding bare_sim
  same_answer (Err why) h = refl
  same_answer (Ok tt) h =
      let x = run_says m s fuel σ (h refl) in
      ap (ran_back m σ) (same_run m s (accepted_table m s bytes x.0.table) true p off fuel (bare_of m σ) (bare_fits m σ x.0.fits) x.1)

  pub run_off : run_answer m s (Some p) fuel σ ≡ run_answer m s None fuel σ
  unfolding run_answer
  run_off = same_answer (run_check m s fuel σ) (λ e. e)

  pub fast_off : (words : List ℕ) → fast_answer m s words (Some p) fuel σ ≡ fast_answer m s words None fuel σ
  unfolding fast_answer
  fast_off words = same_answer (fast_check m s words fuel σ) (λ e. sym (fast_runs m s words fuel σ _ refl e))
