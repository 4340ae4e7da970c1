-- A run over any kind of configuration. Definitions only.
use Rattle.std.specs.Prelude.{Bool, ℕ, zero, suc}
use Rattle.notation.specs.Choice.{pick}
use Rattle.symbol.specs.declared.State.{State}
use Rattle.outcome.specs.declared.NonHaltProof.{NonHaltProof}
use Rattle.outcome.specs.declared.Outcome.{Outcome}
use Rattle.outcome.specs.declared.Outcome.TheVariants.{Halted, OutOfFuel, NeverHalts, Stopped, Full}
use Rattle.machine.specs.declared.Action.{Action}
use Rattle.run_checks.specs.declared.inner.look.Look.{Look}
use Rattle.run_checks.specs.Model.Look.{on_look}

-- what a run reads from a configuration, and the step
pub record Steps (C : Type 0) : Type 0 where
  pub state : C → State
  pub steps : C → ℕ
  -- before a step: no entry; else, where the never test is made, a proved loop; else the entry
  pub look : C → Look
  -- whether there is space for the step
  pub roomy : C → Action → Bool
  -- whether the stop rule has the state
  pub stops : C → Bool
  pub step : C → Action → C

-- the ends of a run: `end` makes one answer of the configuration and the outcome
module _ {C E : Type 0} (k : Steps C) (end : C → Outcome → E) where
  abbrev pub halted : C → E
  halted σ = end σ (Halted (k.steps σ) (k.state σ))

  abbrev pub never : C → NonHaltProof → E
  never σ p = end σ (NeverHalts (k.steps σ) p)

  abbrev pub spent : C → E
  spent σ = end σ (OutOfFuel (k.steps σ))

  abbrev pub full : C → E
  full σ = end σ (Full (k.steps σ))

  abbrev pub stopped : C → E
  stopped σ = end σ (Stopped (k.steps σ))

  -- "halted, never, fuel, space, in that order, before each step"; the stop rule after it
  unfoldable pub run_with : ℕ → C → E
  run_with zero σ = on_look (k.look σ) (halted σ) (never σ) (λ a. spent σ)
  run_with (suc f) σ =
      on_look (k.look σ) (halted σ) (never σ)
      (λ a.
      let on : E = run_with f (k.step σ a) in
      pick (k.roomy σ a) (pick (k.stops σ) (stopped (k.step σ a)) on) (full σ))
