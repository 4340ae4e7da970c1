-- An outcome whose number is known. Assumes nothing.
use Rattle.std.specs.Prelude.{◌≡◌, refl}
use Rattle.std.proofs.Common.{arith}
use Rattle.outcome.specs.declared.NonHaltProof.{NonHaltProof}
use Rattle.outcome.specs.declared.Outcome.{Outcome}
use Rattle.outcome.specs.declared.Outcome.TheVariants.{Halted, OutOfFuel, NeverHalts, Stopped, Full}
use Rattle.outcome.specs.Numbers.{outcome_number, steps_of}

pub full_of : (o : Outcome) → outcome_number o ≡ 4 → o ≡ Full (steps_of o)
full_of (Halted s q) e = absurd (omega (arith, e))
full_of (OutOfFuel s) e = absurd (omega (arith, e))
full_of (NeverHalts s p) e = absurd (omega (arith, e))
full_of (Stopped s) e = absurd (omega (arith, e))
full_of (Full s) e = refl

pub never_of : (o : Outcome) → outcome_number o ≡ 2 → (p : NonHaltProof) × (o ≡ NeverHalts (steps_of o) p)
never_of (Halted s q) e = absurd (omega (arith, e))
never_of (OutOfFuel s) e = absurd (omega (arith, e))
never_of (NeverHalts s p) e = (p, refl)
never_of (Stopped s) e = absurd (omega (arith, e))
never_of (Full s) e = absurd (omega (arith, e))
