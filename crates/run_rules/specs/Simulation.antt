-- Two kinds of configuration side by side: a relation that steps keep, between configurations that look alike. Definitions only.
use Rattle.std.specs.Prelude.{◌≡◌, true}
use Rattle.machine.specs.declared.Action.{Action}
use Rattle.run_rules.specs.Model.Run.{Steps}

pub record Simulation {C D : Type 0} (k : Steps C) (l : Steps D) (R : C → D → Type 0) : Type 0 where
  -- related configurations have the same state, step count, look, space and stop
  pub state : (σ : C) (τ : D) → R σ τ → k.state σ ≡ l.state τ
  pub steps : (σ : C) (τ : D) → R σ τ → k.steps σ ≡ l.steps τ
  pub look : (σ : C) (τ : D) → R σ τ → k.look σ ≡ l.look τ
  pub roomy : (σ : C) (τ : D) → R σ τ → (a : Action) → k.roomy σ a ≡ l.roomy τ a
  pub stops : (σ : C) (τ : D) → R σ τ → k.stops σ ≡ l.stops τ
  -- a step that has space keeps them related
  pub step : (σ : C) (τ : D) → R σ τ → (a : Action) → l.roomy τ a ≡ true → R (k.step σ a) (l.step τ a)
