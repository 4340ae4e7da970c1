-- What the run-length engine's operations require, from what a timeline's code gives. Assumes nothing.
use Rattle.std.specs.Prelude.{◌≡◌, refl, List, ℕ, ◌-◌, ◌≤◌, Ok}
use Rattle.std.proofs.Common.{arith, le-leb, leb-true}
use Rattle.notation.specs.Choice.{pick}
use Rattle.notation.proofs.Facts.Tests.{both_split, both_true}
use Rattle.notation.specs.Limits.{steps_most, runs_most}
use Rattle.machine.specs.declared.Machine.{Machine}
use Rattle.run_checks.specs.Model.Sizes.{fuel_fits}
use Rattle.rle.specs.Model.Engine.{Conf}
use Rattle.rle.specs.Fits.{side_fits, chain_fits, places_fit, engine_check, run_check}
use Rattle.rle.proofs.Facts.OperationCases.{engine_says}
use Rattle.timeline_engine.specs.Engine.{Saves, Advances}
use Rattle.rle_slots.specs.Model.Slots.{lefts_of, rights_of}
use Rattle.rle_slots.specs.Model.Kind.{chain_kind}

-- an engine that passed its check has at most 2^20 run places on each side
pub sizes_in : (m : Machine) (s : List ℕ) (e : Conf) → engine_check m s e ≡ Ok tt → (lefts_of e ≤ runs_most) × (rights_of e ≤ runs_most)
unfolding places_fit
sizes_in m s e z = let p = both_split (engine_says m s e z).places in (leb-true _ _ p.0, leb-true _ _ p.1)

-- its live runs are no more than its run places
lefts_in : (m : Machine) (s : List ℕ) (e : Conf) → engine_check m s e ≡ Ok tt → e.sim.tape.left ≤ lefts_of e
unfolding chain_fits side_fits
lefts_in m s e z = leb-true _ _ (both_split (both_split (both_split (both_split (engine_says m s e z).fits).1).1).0).0

rights_in : (m : Machine) (s : List ℕ) (e : Conf) → engine_check m s e ≡ Ok tt → e.sim.tape.right ≤ rights_of e
unfolding chain_fits side_fits
rights_in m s e z = leb-true _ _ (both_split (both_split (both_split (both_split (both_split (engine_says m s e z).fits).1).1).1).0).0

pub live_in : (m : Machine) (e : Conf) (size : ℕ) → Saves chain_kind m size e → (e.sim.tape.left ≤ lefts_of e) × (e.sim.tape.right ≤ rights_of e)
live_in m e size ok = (lefts_in m ok.table e ok.fits.accepted, rights_in m ok.table e ok.fits.accepted)

pub run_asks : (m : Machine) (s : List ℕ) (n : ℕ) (e : Conf) → Advances chain_kind m s n e → run_check m s n e ≡ Ok tt
unfolding run_check fuel_fits pick
run_asks m s n e ok =
    let b = both_true (le-leb n steps_most (omega (arith, ok.fuel))) (le-leb e.sim.steps (steps_most - n) (omega (arith, ok.fuel))) in
    rw (ok.accepted, b) refl
