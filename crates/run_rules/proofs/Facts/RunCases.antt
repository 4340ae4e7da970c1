-- One turn of a run whose end is x, one fact for each case. Assumes nothing.
use Rattle.std.specs.Prelude.{◌≡◌, refl, true, false}
use Prim.Native.Nat.{ℕ, zero, suc, ◌-◌}
use native.Mathlib.Omega.{arith}
use Rattle.notation.specs.Choice.{pick}
use Rattle.outcome.specs.declared.NonHaltProof.{NonHaltProof}
use Rattle.outcome.specs.declared.Outcome.{Outcome}
use Rattle.machine.specs.declared.Action.{Action}
use Rattle.run_checks.specs.declared.inner.look.Look.TheVariants.{Halt, Never, Go}
use Rattle.run_rules.specs.Model.Run.{Steps, halted, never, spent, full, stopped, run_with}

module _ {C E : Type 0} (k : Steps C) (end : C → Outcome → E) (σ : C) (x : E) where
  pub run_halt : (f : ℕ) → k.look σ ≡ Halt → run_with k end f σ ≡ x → halted k end σ ≡ x
  unfolding run_with
  run_halt zero e p = simp e at p
  run_halt (suc f) e p = simp e at p

  pub run_never : (f : ℕ) (n : NonHaltProof) → k.look σ ≡ Never n → run_with k end f σ ≡ x → never k end σ n ≡ x
  unfolding run_with
  run_never zero n e p = simp e at p
  run_never (suc f) n e p = simp e at p

  module _ (a : Action) (go : k.look σ ≡ Go a) where
    pub run_fuel : (f : ℕ) → f ≡ 0 → run_with k end f σ ≡ x → spent k end σ ≡ x
    unfolding run_with
    run_fuel zero z p = simp go at p
    run_fuel (suc f) z p = absurd (omega arith)

    pub run_full : (f : ℕ) → (f ≡ 0 → ⊥) → k.roomy σ a ≡ false → run_with k end f σ ≡ x → full k end σ ≡ x
    unfolding run_with pick
    run_full zero n r p = absurd (n refl)
    run_full (suc f) n r p = simp (go, r) at p

    pub run_last : (f : ℕ) → (f ≡ 0 → ⊥) → k.roomy σ a ≡ true → k.stops σ ≡ true → run_with k end f σ ≡ x → stopped k end (k.step σ a) ≡ x
    unfolding run_with pick
    run_last zero n r s p = absurd (n refl)
    run_last (suc f) n r s p = simp (go, r, s) at p

    pub run_next : (f : ℕ) → (f ≡ 0 → ⊥) → k.roomy σ a ≡ true → k.stops σ ≡ false → run_with k end f σ ≡ x → run_with k end (f - 1) (k.step σ a) ≡ x
    unfolding run_with pick
    run_next zero n r s p = absurd (n refl)
    run_next (suc f) n r s p =
        let e : suc f - 1 ≡ f = omega arith in
        rw e (simp (go, r, s) at p)
