-- The returns of an advance. Assumes nothing.
use Rattle.outcome.specs.declared.Refusal.{Refusal}
use Rattle.std.specs.Prelude.{◌≡◌, Bool, List, ℕ, None, Ok, Result}
use Rattle.std.proofs.Math.Path.{sym, ap, subst⁻¹}
use Rattle.std.proofs.Common.{◌∙◌, arith}
use Rattle.std.proofs.Math.Bool.{true, false}
use Rattle.outcome.specs.declared.Outcome.{Outcome}
use Rattle.machine.specs.declared.Machine.{Machine}
use Rattle.sim.specs.declared.Simulator.{Simulator}
use Rattle.sim.specs.Model.Engine.{Conf, conf}
use Rattle.sim.specs.Model.Operations.{run_check, Given, given, answer_of}
use Rattle.sim.proofs.Facts.OperationCases.{run_says}
use Rattle.timeline_rule.specs.Model.Kind.{verdict_or, spent}
use Rattle.timeline_rule.proofs.Facts.Verdict.{spent_verdict, other_verdict}
use Rattle.sim_slots.specs.Model.Advance.{ran_from, advance_of}
use Rattle.sim_slots.specs.Invariants.{outcome_in}
use Rattle.sim_slots.proofs.Facts.Advance.{ran_passed, ran_within, no_fuel_at, run_holds}

-- the code's run gives the configuration and the outcome of `ran_from`
module _ (m : Machine) (s : List ℕ) (proves : Bool) (n : ℕ) (σ τ : Conf) (a : Result Outcome Refusal) (ran : given τ a ≡ answer_of (Ok tt) m s proves None n σ) where
  ran_at : τ ≡ (ran_from m s proves n σ).at
  unfolding ran_from
  ran_at = ap (λ (g : Given). g.at) ran

  ran_outcome : outcome_in a ≡ (ran_from m s proves n σ).outcome
  unfolding ran_from
  ran_outcome = ap (λ (g : Given). outcome_in g.answer) ran

module _ (m : Machine) (s : List ℕ) (n : ℕ) (v w : Simulator) (c0 c1 c2 d0 d1 d2 : List ℕ) (a : Result Outcome Refusal)
    (ran : given (conf w d0 d1 d2) a ≡ answer_of (Ok tt) m s false None n (conf v c0 c1 c2)) where
  abbrev σ : Conf
  σ = conf v c0 c1 c2

  abbrev τ : Conf
  τ = conf w d0 d1 d2

  pub again_asks : run_check m s n σ ≡ Ok tt → run_check m s 0 τ ≡ Ok tt
  again_asks e =
      let p = run_says m s n σ e in
      subst⁻¹ (λ (x : Conf). run_check m s 0 x ≡ Ok tt) (ran_at m s false n σ τ a ran)
      (run_holds m s 0 (ran_from m s false n σ).at (ran_passed m s false n σ p.0 p.1) (omega (arith, ran_within m s false n σ p.0 p.1, p.1)))

  module _ (o : Outcome) (q : o ≡ outcome_in a) where
    is_ran : o ≡ (ran_from m s false n σ).outcome
    is_ran = q ∙ ran_outcome m s false n σ τ a ran

    pub ends_ran : spent o ≡ false → (o, τ) ≡ advance_of m s n σ
    unfolding advance_of
    ends_ran e =
        let k : verdict_or (ran_from m s false n σ).outcome (ran_from m s true 0 (ran_from m s false n σ).at).outcome ≡ (ran_from m s false n σ).outcome
        = other_verdict (ran_from m s false n σ).outcome _ (ap spent (sym is_ran) ∙ e) in
        λ i. ((is_ran ∙ sym k) i, ran_at m s false n σ τ a ran i)

    pub ends_tested : spent o ≡ true → (x : Simulator) (e0 e1 e2 : List ℕ) (b : Result Outcome Refusal) (p : Outcome)
        → given (conf x e0 e1 e2) b ≡ answer_of (Ok tt) m s true None 0 τ → p ≡ outcome_in b → (p, conf x e0 e1 e2) ≡ advance_of m s n σ
    unfolding advance_of
    ends_tested e x e0 e1 e2 b p again r =
        let k : verdict_or (ran_from m s false n σ).outcome (ran_from m s true 0 (ran_from m s false n σ).at).outcome ≡ (ran_from m s true 0 (ran_from m s false n σ).at).outcome
        = spent_verdict (ran_from m s false n σ).outcome _ (ap spent (sym is_ran) ∙ e) in
        let here : τ ≡ (ran_from m s false n σ).at = ran_at m s false n σ τ a ran in
        let said : p ≡ (ran_from m s true 0 (ran_from m s false n σ).at).outcome
        = r ∙ ran_outcome m s true 0 τ (conf x e0 e1 e2) b again ∙ ap (λ (y : Conf). (ran_from m s true 0 y).outcome) here in
        let still : conf x e0 e1 e2 ≡ (ran_from m s false n σ).at
        = ran_at m s true 0 τ (conf x e0 e1 e2) b again ∙ no_fuel_at m s true τ ∙ here in
        λ i. ((said ∙ sym k) i, still i)
