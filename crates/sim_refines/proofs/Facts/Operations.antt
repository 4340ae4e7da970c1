-- The operations run, fast run and step do what the table machine does. Assumes nothing.
use Rattle.symbol.specs.declared.State.{State}
use Rattle.outcome.specs.declared.Refusal.{Refusal}
use Rattle.std.specs.Prelude.{◌≡◌, List, ℕ, ◌+◌, ◌≤◌, Err, None, Ok, Option, Result, Some, ⊤}
use Rattle.std.proofs.Math.Path.{refl, sym, subst}
use Rattle.std.proofs.Common.{ap, ◌∙◌, arith}
use Rattle.std.proofs.Math.Bool.{true, false}
use Rattle.notation.specs.Choice.{pick}
use Rattle.notation.proofs.Facts.Tests.{clash, pick_cases}
use Rattle.notation.specs.Limits.{steps_most}
use Rattle.outcome.specs.declared.NonHaltProof.{NonHaltProof}
use Rattle.outcome.specs.declared.Outcome.{Outcome}
use Rattle.outcome.specs.declared.Outcome.TheVariants.{NeverHalts}
use Rattle.outcome.specs.declared.Status.{Status}
use Rattle.outcome.specs.declared.Status.TheVariants as Step
use Rattle.machine.specs.declared.Machine.{Machine}
use Rattle.machine.specs.declared.Action.{Action}
use Rattle.table_laws.specs.WellFormed.{Bytes}
use Rattle.table_machine.specs.TableMachine.{Config, run, entry, step, Halted}
use Rattle.table_machine.specs.Tables.{table_of}
use Rattle.table_machine.proofs.Facts.Table.{accepted_table}
use Rattle.table_machine.proofs.Facts.Run.{not_defined, step-act}
use Rattle.run_checks.specs.declared.inner.look.Look.{Look}
use Rattle.sim.specs.Model.Engine.{task, Conf, End, end, on_look, look_with, roomy_of, step_of, run_of, Once, once, once_of}
use Rattle.sim.specs.Model.Operations.{bare_sim, bare_of, back_of, run_check, words_right, fast_check, Given, given, ran_back, run_on, run_answer, fast_answer, StepGiven, step_given, step_back, step_on, step_answer}
use Rattle.sim.proofs.Facts.OperationCases.{Passed, run_says, fast_right}
use Rattle.sim_refines.specs.Meaning.{config_of, EngineFits}
use Rattle.sim_refines.specs.Statement.{Refines, Kept, Sees, no_entry, loops, goes_on}
use Rattle.sim_refines.proofs.Facts.Step.{step_config, step_keeps}
use Rattle.sim_refines.proofs.Facts.Look.{look_sees}
use Rattle.sim_refines.proofs.Facts.Refinement.{kept_none, plain_refines}
use Rattle.sim_refines.proofs.Facts.Run.{never_halts}
use Rattle.sim_refines.specs.Operations.{HandedBack, RunHolds, StepHolds, running, halted, full}
use Rattle.sim_refines.proofs.Facts.MissingTapes.{config_bare, bare_back, bare_fits, handed_back_lem}

-- ---- the run

accepted-run : (c : Result ⊤ Refusal) (σ : Conf) (d : Given) (τ : Conf) (o : Outcome) → run_on c σ d ≡ given τ (Ok o) → (c ≡ Ok tt) × (d ≡ given τ (Ok o))
accepted-run (Err why) σ d τ o e =
    let k = ap (λ (g : Given). g.answer) e in
    let z : ◌≡◌ {A = ℕ} 0 1 = cc in absurd (omega arith)
accepted-run (Ok tt) σ d τ o e = (refl, e)

-- the fast run: with the table's words it answers as `run` does, refusals included; with other words it is refused
module _ (m : Machine) (s words : List ℕ) (rule : Option State) (fuel : ℕ) (σ : Conf) where
  pub fast_agrees : words_right m s words ≡ true → fast_answer m s words rule fuel σ ≡ run_answer m s rule fuel σ
  unfolding fast_answer run_answer fast_check run_check pick
  fast_agrees w = rw w refl

  pub fast_done : (τ : Conf) (o : Outcome) → fast_answer m s words rule fuel σ ≡ given τ (Ok o) → run_answer m s rule fuel σ ≡ given τ (Ok o)
  unfolding fast_answer
  fast_done τ o e = sym (fast_agrees (fast_right m s words fuel σ _ refl (accepted-run _ _ _ _ _ e).0)) ∙ e

module _ (m : Machine) (s : List ℕ) (bytes : Bytes s) (rule : Option State) (fuel : ℕ) (σ τ : Conf) (o : Outcome)
    (done : run_answer m s rule fuel σ ≡ given τ (Ok o)) where
  abbrev ending : End
  ending = run_of (task m s true rule) fuel (bare_of m σ)

  accepted : (run_check m s fuel σ ≡ Ok tt) × (ran_back m σ ending ≡ given τ (Ok o))
  unfolding run_answer
  accepted = accepted-run _ _ _ _ _ done

  passed : Passed m s σ × (σ.sim.steps + fuel ≤ steps_most)
  passed = run_says m s fuel σ accepted.0

  refined : Refines (task m s true rule) fuel (bare_of m σ) ending
  unfolding bare_sim
  refined = plain_refines m s bytes passed.0.table true rule fuel (bare_of m σ) (bare_fits m σ passed.0.fits) passed.1

  back_is : back_of m σ ending.at ≡ τ
  back_is = ap (λ (g : Given). g.at) accepted.1

  says_is : ending.outcome ≡ o
  says_is = let k = ap (λ (g : Given). g.answer) accepted.1 in cc

  end_is : ending ≡ end (bare_of m τ) o
  end_is = λ i. record { at = (sym (bare_back m σ ending.at refined.went.kept.fits) ∙ ap (bare_of m) back_is) i; outcome = says_is i }

  pub run_holds : RunHolds m s rule fuel σ τ o
  run_holds = record {
    refines = subst (Refines (task m s true rule) fuel (bare_of m σ)) end_is refined;
    same_before = config_bare m σ;
    same_after = config_bare m τ;
    back = subst (HandedBack m σ) back_is (handed_back_lem m σ ending.at refined.went.kept);
  }

  -- "`never` means never": from the start of the run the machine halts at no step
  pub run_never_halts : (n : ℕ) (p : NonHaltProof) → o ≡ NeverHalts n p → (j : ℕ) → ¬ (Halted (table_of m s) (run (table_of m s) j (config_of m σ)))
  unfolding bare_sim
  run_never_halts n p e j =
      subst (λ (c : Config). ¬ (Halted (table_of m s) (run (table_of m s) j c))) (config_bare m σ)
      (never_halts m s bytes passed.0.table true rule fuel (bare_of m σ) (bare_fits m σ passed.0.fits) passed.1 n p (says_is ∙ e) j)

-- ---- one step

accepted-step : (c : Result ⊤ Refusal) (σ : Conf) (d : StepGiven) (τ : Conf) (x : Status) → step_on c σ d ≡ step_given τ (Ok x) → (c ≡ Ok tt) × (d ≡ step_given τ (Ok x))
accepted-step (Err why) σ d τ x e =
    let k = ap (λ (g : StepGiven). g.answer) e in
    let z : ◌≡◌ {A = ℕ} 0 1 = cc in absurd (omega arith)
accepted-step (Ok tt) σ d τ x e = (refl, e)

module _ (m : Machine) (s : List ℕ) (bytes : Bytes s) (σ τ : Conf) (x : Status) (done : step_answer m s σ ≡ step_given τ (Ok x)) where
  abbrev made-step : Once
  made-step = once_of m s (bare_of m σ)

  step-accepted : (run_check m s 1 σ ≡ Ok tt) × (step_back m σ made-step ≡ step_given τ (Ok x))
  unfolding step_answer
  step-accepted = accepted-step _ _ _ _ _ done

  step_passed : Passed m s σ × (σ.sim.steps + 1 ≤ steps_most)
  step_passed = run_says m s 1 σ step-accepted.0

  bare_engine : EngineFits m (bare_of m σ)
  bare_engine = bare_fits m σ step_passed.0.fits

  step_back_holds : back_of m σ made-step.at ≡ τ
  step_back_holds = ap (λ (g : StepGiven). g.at) step-accepted.1

  step_says : made-step.status ≡ x
  step_says = let k = ap (λ (g : StepGiven). g.answer) step-accepted.1 in cc

  -- the configuration handed back is the one that the step left
  config_back : (e : Conf) → EngineFits m e → config_of m (back_of m σ e) ≡ config_of m e
  config_back e f = sym (config_bare m (back_of m σ e)) ∙ ap (config_of m) (bare_back m σ e f)

  -- the engine and the status after one step
  record Stepped (o : Once) : Type 0 where
    kept : Kept m (bare_of m σ) o.at
    holds : StepHolds m s σ (back_of m σ o.at) o.status

  stepped : Stepped made-step
  unfolding once_of pick bare_sim
  stepped = by (look_with m s false (bare_of m σ)) refl (look_sees (task m s false None) (bare_of m σ) bare_engine)
    where
      still : Kept m (bare_of m σ) (bare_of m σ)
      still = kept_none m (bare_of m σ) bare_engine

      back_same : config_of m (back_of m σ (bare_of m σ)) ≡ config_of m σ
      back_same = config_back (bare_of m σ) bare_engine ∙ config_bare m σ

      room : (a : Action) → entry (table_of m s) (config_of m (bare_of m σ)) ≡ Some a → Stepped (pick (roomy_of (bare_of m σ) a) (once (step_of (bare_of m σ) a) Step.Running) (once (bare_of m σ) Step.Full))
      room a e = pick_cases (roomy_of (bare_of m σ) a) _ _ Stepped
          (λ r.
          let t = accepted_table m s bytes step_passed.0.table in
          let k = step_keeps m s (bare_of m σ) bare_engine t a e r step_passed.1 in
          record {
            kept = k;
            holds = running (λ h. not_defined _ a (ap (entry (table_of m s)) (config_bare m σ) ∙ h) e)
                (config_back _ k.fits ∙ step_config m s (bare_of m σ) bare_engine t a e r ∙ sym (step-act (table_of m s) _ a e) ∙ ap (step (table_of m s)) (config_bare m σ));
          })
          (λ r. record { kept = still; holds = full a (sym (ap (entry (table_of m s)) (config_bare m σ)) ∙ e) r back_same })

      by : (l : Look) → look_with m s false (bare_of m σ) ≡ l → Sees (task m s false None) (config_of m (bare_of m σ)) l
          → Stepped (on_look l (once (bare_of m σ) Step.Halted) (λ p. once (bare_of m σ) Step.Halted)
          (λ a. pick (roomy_of (bare_of m σ) a) (once (step_of (bare_of m σ) a) Step.Running) (once (bare_of m σ) Step.Full)))
      by l q (no_entry h) = record { kept = still; holds = halted (sym (ap (entry (table_of m s)) (config_bare m σ)) ∙ h) back_same }
      by l q (loops p t v) = absurd (clash t refl)
      by l q (goes_on a e u) = room a e

  pub step_holds : StepHolds m s σ τ x
  step_holds = subst (λ (τ : Conf). StepHolds m s σ τ x) step_back_holds (subst (StepHolds m s σ (back_of m σ made-step.at)) step_says stepped.holds)

  pub step_handed_back : HandedBack m σ τ
  step_handed_back = subst (HandedBack m σ) step_back_holds (handed_back_lem m σ made-step.at stepped.kept)
