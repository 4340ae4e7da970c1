-- Runs from related configurations end alike. Assumes nothing.
use Rattle.std.specs.Prelude.{◌≡◌, refl, Bool, true, false}
use Rattle.std.proofs.Math.Path.{subst⁻¹}
use Prim.Native.Nat.{ℕ, zero, suc}
use Rattle.notation.specs.Choice.{pick}
use Rattle.outcome.specs.declared.Outcome.{Outcome}
use Rattle.outcome.specs.declared.Outcome.TheVariants.{Halted, OutOfFuel, NeverHalts, Stopped, Full}
use Rattle.machine.specs.declared.Action.{Action}
use Rattle.run_checks.specs.declared.inner.look.Look.{Look}
use Rattle.run_checks.specs.declared.inner.look.Look.TheVariants.{Halt, Never, Go}
use Rattle.run_checks.specs.Model.Look.{on_look}
use Rattle.run_rules.specs.Model.Run.{Steps, halted, never, spent, full, stopped, run_with}
use Rattle.run_rules.specs.Simulation.{Simulation}

-- `end` and `end'` make the answers of the two runs; S relates the answers of related configurations with the same outcome
module _ {C D E F : Type 0} (k : Steps C) (l : Steps D) (R : C → D → Type 0) (b : Simulation k l R)
    (end : C → Outcome → E) (end' : D → Outcome → F) (S : E → F → Type 0) (ends : (σ : C) (τ : D) (o : Outcome) → R σ τ → S (end σ o) (end' τ o)) where
  by_outcome : (σ : C) (τ : D) (o o' : Outcome) → o ≡ o' → R σ τ → S (end σ o) (end' τ o')
  by_outcome σ τ o o' e r = subst⁻¹ (λ x. S (end σ x) (end' τ o')) e (ends σ τ o' r)

  -- what a run makes of an entry that it follows, by its space and the stop rule
  abbrev go_on : ℕ → C → Action → (roomy stops : Bool) → E
  go_on f σ a roomy stops = pick roomy (pick stops (stopped k end (k.step σ a)) (run_with k end f (k.step σ a))) (full k end σ)

  abbrev goOn' : ℕ → D → Action → (roomy stops : Bool) → F
  goOn' f τ a roomy stops = pick roomy (pick stops (stopped l end' (l.step τ a)) (run_with l end' f (l.step τ a))) (full l end' τ)

  pub run_related : (f : ℕ) (σ : C) (τ : D) → R σ τ → S (run_with k end f σ) (run_with l end' f τ)
  unfolding run_with pick
  run_related zero σ τ r = subst⁻¹ (λ x. S (on x) (run_with l end' zero τ)) (b.look σ τ r) (by (l.look τ))
    where
      on : Look → E
      on x = on_look x (halted k end σ) (never k end σ) (λ a. spent k end σ)

      on' : Look → F
      on' x = on_look x (halted l end' τ) (never l end' τ) (λ a. spent l end' τ)

      by : (x : Look) → S (on x) (on' x)
      by Halt = by_outcome σ τ _ _ (λ i. Halted (b.steps σ τ r i) (b.state σ τ r i)) r
      by (Never p) = by_outcome σ τ _ _ (λ i. NeverHalts (b.steps σ τ r i) p) r
      by (Go a) = by_outcome σ τ _ _ (λ i. OutOfFuel (b.steps σ τ r i)) r
  run_related (suc f) σ τ r =
      subst⁻¹ (λ x. S (on x) (run_with l end' (suc f) τ)) (b.look σ τ r) (by (λ σ' τ'. run_related f σ' τ') (l.look τ))
    where
      on : Look → E
      on x = on_look x (halted k end σ) (never k end σ) (λ a. go_on f σ a (k.roomy σ a) (k.stops σ))

      on' : Look → F
      on' x = on_look x (halted l end' τ) (never l end' τ) (λ a. goOn' f τ a (l.roomy τ a) (l.stops τ))

      go : ((σ' : C) (τ' : D) → R σ' τ' → S (run_with k end f σ') (run_with l end' f τ'))
          → (a : Action) (roomy stops : Bool) → l.roomy τ a ≡ roomy → S (go_on f σ a roomy stops) (goOn' f τ a roomy stops)
      go rest a false stops e = by_outcome σ τ _ _ (λ i. Full (b.steps σ τ r i)) r
      go rest a true true e =
          by_outcome (k.step σ a) (l.step τ a) _ _ (λ i. Stopped (b.steps (k.step σ a) (l.step τ a) (b.step σ τ r a e) i)) (b.step σ τ r a e)
      go rest a true false e = rest (k.step σ a) (l.step τ a) (b.step σ τ r a e)

      by : ((σ' : C) (τ' : D) → R σ' τ' → S (run_with k end f σ') (run_with l end' f τ')) → (x : Look) → S (on x) (on' x)
      by rest Halt = by_outcome σ τ _ _ (λ i. Halted (b.steps σ τ r i) (b.state σ τ r i)) r
      by rest (Never p) = by_outcome σ τ _ _ (λ i. NeverHalts (b.steps σ τ r i) p) r
      by rest (Go a) = subst⁻¹ (λ e. S e (goOn' f τ a (l.roomy τ a) (l.stops τ)))
          (λ i. go_on f σ a (b.roomy σ τ r a i) (b.stops σ τ r i))
          (go rest a (l.roomy τ a) (l.stops τ) refl)
