-- After an advance the engine still passes its check, and its step count is not lower. Assumes nothing.
use Rattle.std.specs.Prelude.{◌≡◌, false, List, ℕ, ◌+◌, ◌≤◌, ◌^◌, None, Ok}
use Rattle.std.proofs.Math.Path.{refl}
use Rattle.std.proofs.Common.{sym, ap, subst, arith}
use Rattle.machine.specs.declared.Machine.{Machine}
use Rattle.table_laws.specs.WellFormed.{Bytes}
use Rattle.run_rules.specs.Model.Task.{task}
use Rattle.rle.specs.Model.Engine.{Conf, run_of}
use Rattle.rle.specs.Invariants.{SameSizes}
use Rattle.rle.specs.Fits.{engine_check}
use Rattle.rle_refines.specs.Statement.{Refines, Kept}
use Rattle.rle_refines.proofs.Facts.Refinement.{chain_refines}
use Rattle.rle_refines.proofs.Facts.Fits.{holds_fits}
use Rattle.rle_refines.proofs.Facts.Operations.{Passed, engine_says}
use Rattle.rle_slots.specs.Model.Advance.{ran_from, advance_of}
use Rattle.rle_slots.proofs.Facts.LiveRuns.{accepted_again}

-- τ is accepted, and its lists are as long as those of σ
pub record Again (m : Machine) (s : List ℕ) (σ τ : Conf) : Type 0 where
  pub accepted : engine_check m s τ ≡ Ok tt
  pub sizes : SameSizes σ τ

module _ (m : Machine) (s : List ℕ) (bytes : Bytes s) (n : ℕ) (σ : Conf) (passed : engine_check m s σ ≡ Ok tt) (small : σ.sim.steps + n ≤ 2 ^ 62) where
  abbrev ending : Conf
  ending = (run_of (task m s false None) n σ).at

  advanced : (advance_of m s n σ).1 ≡ ending
  unfolding advance_of ran_from
  advanced = refl

  p : Passed m s σ
  p = engine_says m s σ passed

  refined : Refines (task m s false None) n σ (run_of (task m s false None) n σ)
  refined = chain_refines m s bytes p.table p.single false None n σ p.fits small

  kept : Kept m σ ending
  kept = refined.went.kept

  sizes : SameSizes σ ending
  sizes = record { ls = kept.same_ls; ll = kept.same_ll; rs = kept.same_rs; rl = kept.same_rl }

  pub advance_fits : Again m s σ (advance_of m s n σ).1
  advance_fits = subst (Again m s σ) (sym advanced) (record { accepted = accepted_again m s σ ending passed sizes (holds_fits m ending kept.fits); sizes = sizes })

  pub advance_climbs : σ.sim.steps ≤ (advance_of m s n σ).1.sim.steps
  advance_climbs = omega (arith, ap (λ (τ : Conf). τ.sim.steps) advanced, refined.went.counted)
