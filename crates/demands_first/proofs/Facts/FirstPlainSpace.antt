-- The plain engine's runs and steps that end for lack of space. Assumes nothing.
use Rattle.symbol.specs.declared.State.{State}
use Rattle.outcome.specs.declared.Refusal.{Refusal}
use Rattle.std.specs.Prelude.{◌≡◌, ◌↔◌, false, List, ℕ, zero, suc, ◌+◌, ◌<◌, Ok, Option, Result, Some, ⊤}
use Rattle.std.proofs.Math.Path.{refl, ap, subst⁻¹}
use Rattle.std.proofs.Common.{sym, ◌∙◌, subst, arith}
use Rattle.std.proofs.Math.Bool.{true}
use Rattle.notation.proofs.Facts.Tests.{clash}
use Rattle.outcome.specs.declared.Outcome.{Outcome}
use Rattle.outcome.specs.declared.Outcome.TheVariants.{OutOfFuel, Full}
use Rattle.outcome.specs.declared.Status.{Status}
use Rattle.outcome.specs.declared.Status.TheVariants as Step
use Rattle.machine.specs.declared.Machine.{Machine}
use Rattle.machine.specs.declared.Action.{Action}
use Rattle.machine.specs.Model.Check.{table_check}
use Rattle.table_laws.specs.WellFormed.{Bytes}
use Rattle.table_machine.specs.TableMachine.{Config, entry}
use Rattle.table_machine.specs.Tables.{table_of}
use Rattle.table_machine.proofs.Facts.Table.{accepted_table}
use Rattle.sim.specs.Model.Engine.{Task, task, Conf, End, full_end, roomy_of, run_of, Once, once_of}
use Rattle.sim.specs.Model.Operations.{bare_sim, bare_of, back_of, run_check, Given, given, ran_back, run_on, run_answer, StepGiven, step_given, step_back, step_on, step_answer}
use Rattle.sim.proofs.Facts.OperationCases.{run_says}
use Rattle.sim_refines.specs.Meaning.{config_of, EngineFits}
use Rattle.sim_refines.specs.Statement.{Answers, verdict, halted, spent, stopped, full, Refines}
use Rattle.sim_refines.proofs.Facts.Refinement.{plain_refines}
use Rattle.sim_refines.proofs.Facts.Run.{run_twice}
use Rattle.sim_refines.specs.Operations as Claims
use Rattle.sim_refines.specs.Operations.{RunHolds, StepHolds}
use Rattle.sim_refines.proofs.Facts.MissingTapes.{config_bare, bare_back, back_bare, bare_fits}
use Rattle.sim_refines.proofs.Facts.Operations.{run_holds, step_holds}
use Rattle.demands_second.proofs.Facts.ChainRun.{not_full_verdict}
use Rattle.demands_second.specs.Space.{GoesOn}
use Rattle.demands_first.specs.FirstClaims.{refusal_of}
use Rattle.demands_first.specs.FirstSpace.{EndsFull, PlainFull}
use Rattle.demands_first.proofs.Facts.First.{plain_run_first}
use Rattle.demands_first.proofs.Facts.FirstPlain.{plain_run_turns, plain_step_turns}
use Rattle.demands_first.proofs.Facts.FirstSpace.{full_act, lacks_some, some_lacks, full_ends, full_once, once_full, fuel_verdict}

-- ---- an answer that is no refusal was accepted

pub run-accepted : (m : Machine) (s : List ℕ) (rule : Option State) (fuel : ℕ) (σ τ : Conf) (o : Outcome) → run_answer m s rule fuel σ ≡ given τ (Ok o) → run_check m s fuel σ ≡ Ok tt
run-accepted m s rule fuel σ τ o e =
    plain_run_first m s σ fuel ∙ sym (plain_run_turns m s rule fuel σ).first ∙ ap (λ (x : Given). refusal_of x.answer) e

step-accepted : (m : Machine) (s : List ℕ) (σ τ : Conf) (x : Status) → step_answer m s σ ≡ step_given τ (Ok x) → run_check m s 1 σ ≡ Ok tt
step-accepted m s σ τ x e =
    plain_run_first m s σ 1 ∙ sym (plain_step_turns m s σ).first ∙ ap (λ (x : StepGiven). refusal_of x.answer) e

-- an accepted answer is that of the model's run
run_is : (m : Machine) (s : List ℕ) (rule : Option State) (fuel : ℕ) (σ : Conf) → run_check m s fuel σ ≡ Ok tt
    → run_answer m s rule fuel σ ≡ ran_back m σ (run_of (task m s true rule) fuel (bare_of m σ))
unfolding run_answer
run_is m s rule fuel σ c = ap (λ (x : Result ⊤ Refusal). run_on x σ (ran_back m σ (run_of (task m s true rule) fuel (bare_of m σ)))) c

step_is : (m : Machine) (s : List ℕ) (σ : Conf) → run_check m s 1 σ ≡ Ok tt → step_answer m s σ ≡ step_back m σ (once_of m s (bare_of m σ))
unfolding step_answer
step_is m s σ c = ap (λ (x : Result ⊤ Refusal). step_on x σ (step_back m σ (once_of m s (bare_of m σ)))) c

module _ (m : Machine) (s : List ℕ) (bytes : Bytes s) where
  -- ---- the engine's rule, as the run tests it

  lacks_room : (σ : Conf) → table_check m s ≡ Ok tt → EngineFits m (bare_of m σ) → (a : Action) → entry (table_of m s) (config_of m σ) ≡ Some a → roomy_of (bare_of m σ) a ≡ false
      → PlainFull m s σ
  lacks_room σ c f a e r = lacks_some m s (accepted_table m s bytes c) σ f a (ap (entry (table_of m s)) (config_bare m σ) ∙ e) r

  -- ---- a run that answers full

  module _ (rule : Option State) (fuel : ℕ) (σ τ : Conf) (n : ℕ) (done : run_answer m s rule fuel σ ≡ given τ (Ok (Full n))) where
    abbrev k : Task
    k = task m s true rule

    ran : RunHolds m s rule fuel σ τ (Full n)
    ran = run_holds m s bytes rule fuel σ τ (Full n) done

    abbrev Ended : Config → Config → Type 0
    Ended before after = EndsFull m (table_of m s) before after fuel n (PlainFull m s τ)

    bare_full : {o : Outcome} → o ≡ Full n → Answers k fuel ran.refines.made (bare_of m σ) (bare_of m τ) o → Ended (config_of m (bare_of m σ)) (config_of m (bare_of m τ))
    bare_full q (verdict o t v g) = absurd (not_full_verdict _ _ _ o v n q)
    bare_full q (halted t h) = absurd (clash refl t)
    bare_full q (spent t h e) = absurd (clash refl t)
    bare_full q (stopped j l h) = let z : ◌≡◌ {A = ℕ} 0 1 = cc in absurd (omega arith)
    bare_full q (full a l e u r) =
        let count_is : (bare_of m τ).sim.steps ≡ n = cc in
        record {
          stops = record {
            made = ran.refines.made;
            within = omega (arith, l);
            counted = sym count_is ∙ ran.refines.went.counted;
            steps = count_is;
            reached = ran.refines.went.holds;
            next = lacks_room τ (run_says m s fuel σ (run-accepted m s rule fuel σ τ (Full n) done)).0.table (bare_fits m τ ran.back.fits) a
                (sym (ap (entry (table_of m s)) (config_bare m τ)) ∙ e) r;
          };
          going = u refl;
        }

    pub plain_full : Ended (config_of m σ) (config_of m τ)
    plain_full = subst (λ (c : Config). Ended c (config_of m τ)) ran.same_before
        (subst (λ (c : Config). Ended (config_of m (bare_of m σ)) c) ran.same_after (bare_full refl ran.refines.answers))

  -- ---- a run whose next step is full

  -- from e, the engine without the caller's own fields
  ends_full : (rule : Option State) (fuel : ℕ) (e : Conf) (σ : Conf) → table_check m s ≡ Ok tt → 0 < fuel → EngineFits m e → bare_of m σ ≡ e → GoesOn m (table_of m s) (config_of m e) → PlainFull m s σ
      → run_of (task m s true rule) fuel e ≡ full_end e
  ends_full rule zero e σ c l f q v g = absurd (omega arith)
  ends_full rule (suc fuel) e σ c l f q v g =
      let x = full_act m s σ g in
      let h : entry (table_of m s) (config_of m (bare_of m σ)) ≡ Some x.0 = ap (entry (table_of m s)) (config_bare m σ) ∙ x.1 in
      full_ends (task m s true rule) e f x.0 (ap (λ (y : Conf). entry (table_of m s) (config_of m y)) (sym q) ∙ h) v
      (ap (λ (y : Conf). roomy_of y x.0) (sym q) ∙ some_lacks m s (accepted_table m s bytes c) σ (subst⁻¹ (EngineFits m) q f) x.0 h g) fuel

  module _ (rule : Option State) (fuel : ℕ) (σ : Conf) (accepted : run_check m s fuel σ ≡ Ok tt) (more : 0 < fuel) (going : GoesOn m (table_of m s) (config_of m σ)) where
    stays_full : PlainFull m s σ → run_answer m s rule fuel σ ≡ given σ (Ok (Full σ.sim.steps))
    unfolding bare_sim
    stays_full g =
        run_is m s rule fuel σ accepted
        ∙ ap (ran_back m σ) (ends_full rule fuel (bare_of m σ) σ (run_says m s fuel σ accepted).0.table more (bare_fits m σ (run_says m s fuel σ accepted).0.fits) refl (subst (GoesOn m (table_of m s)) (sym (config_bare m σ)) going) g)
        ∙ ap (λ (x : Conf). given x (Ok (Full σ.sim.steps))) (back_bare m σ)

    pub plain_stays : (run_answer m s rule fuel σ ≡ given σ (Ok (Full σ.sim.steps))) ↔ PlainFull m s σ
    plain_stays = (λ e. (plain_full rule fuel σ σ σ.sim.steps e).stops.next, stays_full)

  -- ---- more fuel does not go past a full step

  module _ (rule : Option State) (a b : ℕ) (σ τ : Conf) (n : ℕ) (done : run_answer m s rule a σ ≡ given τ (Ok (OutOfFuel n)))
      (accepted : run_check m s (a + b) σ ≡ Ok tt) (more : 0 < b) (next : PlainFull m s τ) where
    abbrev first-end : End
    first-end = run_of (task m s true rule) a (bare_of m σ)

    first_accepted : run_check m s a σ ≡ Ok tt
    first_accepted = run-accepted m s rule a σ τ (OutOfFuel n) done

    is_done : ran_back m σ first-end ≡ given τ (Ok (OutOfFuel n))
    is_done = sym (run_is m s rule a σ first_accepted) ∙ done

    back_is : back_of m σ first-end.at ≡ τ
    back_is = ap (λ (g : Given). g.at) is_done

    says_is : first-end.outcome ≡ OutOfFuel n
    says_is = let k = ap (λ (g : Given). g.answer) is_done in cc

    refined : Refines (task m s true rule) a (bare_of m σ) first-end
    unfolding bare_sim
    refined =
        let p = run_says m s a σ first_accepted in
        plain_refines m s bytes p.0.table true rule a (bare_of m σ) (bare_fits m σ p.0.fits) p.1

    fits : EngineFits m first-end.at
    fits = refined.went.kept.fits

    bare_is : bare_of m τ ≡ first-end.at
    bare_is = ap (bare_of m) (sym back_is) ∙ bare_back m σ first-end.at fits

    going_on : {o : Outcome} → o ≡ OutOfFuel n → Answers (task m s true rule) a refined.made (bare_of m σ) first-end.at o
        → GoesOn m (table_of m s) (config_of m first-end.at) × (first-end.at.sim.steps ≡ n)
    going_on q (verdict o t v g) = fuel_verdict _ _ _ o v n q
    going_on q (halted t h) = absurd (clash refl t)
    going_on q (spent t h e) = absurd (clash refl t)
    going_on q (stopped j l h) = let z : ◌≡◌ {A = ℕ} 0 1 = cc in absurd (omega arith)
    going_on q (full x l e u r) = let z : ◌≡◌ {A = ℕ} 0 1 = cc in absurd (omega arith)

    pub plain_onward : run_answer m s rule (a + b) σ ≡ given τ (Ok (Full n))
    plain_onward =
        let g = going_on says_is refined.answers in
        run_is m s rule (a + b) σ accepted
        ∙ ap (ran_back m σ) (sym (run_twice (task m s true rule) a b (bare_of m σ) n says_is) ∙ ends_full rule b first-end.at τ (run_says m s a σ first_accepted).0.table more fits bare_is g.0 next)
        ∙ (λ i. given (back_is i) (Ok (Full (g.1 i))))

  -- ---- a step

  module _ (σ τ : Conf) (done : step_answer m s σ ≡ step_given τ (Ok Step.Full)) where
    abbrev stepped : Once
    stepped = once_of m s (bare_of m σ)

    step_done : step_back m σ stepped ≡ step_given τ (Ok Step.Full)
    step_done = sym (step_is m s σ (step-accepted m s σ τ Step.Full done)) ∙ done

    step_still : τ ≡ σ
    step_still =
        let k = ap (λ (g : StepGiven). g.answer) step_done in
        let q : stepped.status ≡ Step.Full = cc in
        sym (ap (λ (g : StepGiven). g.at) step_done) ∙ ap (back_of m σ) (once_full m s (bare_of m σ) q) ∙ back_bare m σ

    step_lacks : {x : Status} → x ≡ Step.Full → StepHolds m s σ τ x → PlainFull m s σ
    step_lacks q (Claims.running h c) = let z : ◌≡◌ {A = ℕ} 0 1 = cc in absurd (omega arith)
    step_lacks q (Claims.halted h c) = let z : ◌≡◌ {A = ℕ} 0 1 = cc in absurd (omega arith)
    step_lacks q (Claims.full a e r c) =
        let p = run_says m s 1 σ (step-accepted m s σ τ Step.Full done) in
        lacks_room σ p.0.table (bare_fits m σ p.0.fits) a e r

    pub plain_step_full : (τ ≡ σ) × PlainFull m s σ
    plain_step_full = (step_still, step_lacks refl (step_holds m s bytes σ τ Step.Full done))

  -- the next step is full exactly where the step answers full and leaves the engine and every cell as they were
  module _ (σ : Conf) (accepted : run_check m s 1 σ ≡ Ok tt) where
    step_stays : PlainFull m s σ → step_answer m s σ ≡ step_given σ (Ok Step.Full)
    step_stays g =
        let x = full_act m s σ g in
        let p = (run_says m s 1 σ accepted).0 in
        let h : entry (table_of m s) (config_of m (bare_of m σ)) ≡ Some x.0 = ap (entry (table_of m s)) (config_bare m σ) ∙ x.1 in
        step_is m s σ accepted
        ∙ ap (step_back m σ) (full_once m s (bare_of m σ) (bare_fits m σ p.fits) x.0 h (some_lacks m s (accepted_table m s bytes p.table) σ (bare_fits m σ p.fits) x.0 h g))
        ∙ ap (λ (x : Conf). step_given x (Ok Step.Full)) (back_bare m σ)

    pub plain_step_stays : (step_answer m s σ ≡ step_given σ (Ok Step.Full)) ↔ PlainFull m s σ
    plain_step_stays = (λ e. (plain_step_full σ σ e).1, step_stays)
