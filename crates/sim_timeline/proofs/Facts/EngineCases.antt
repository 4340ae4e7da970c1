-- What the plain engine's operations require, from what a timeline's code gives. Assumes nothing.
use Rattle.std.specs.Prelude.{◌≡◌, true, List, ℕ, length, Ok}
use Rattle.std.proofs.Common.{sym}
use Rattle.machine.specs.declared.Machine.{Machine}
use Rattle.sim.specs.Model.Engine.{Conf}
use Rattle.sim.specs.Model.Operations.{sizes_fit, engine_check, run_check}
use Rattle.sim.proofs.Facts.OperationCases.{engine_says}
use Rattle.sim_slots.specs.Invariants.{SaveOk}
use Rattle.sim_slots.specs.Model.Kind.{plain_kind}
use Rattle.sim_slots.proofs.Facts.Advance.{advance_asks}
use Rattle.timeline_engine.specs.Engine.{Saves, Advances}

pub sizes_in : (m : Machine) (s : List ℕ) (e : Conf) → engine_check m s e ≡ Ok tt → sizes_fit m (length e.c0) (length e.c1) (length e.c2) ≡ true
sizes_in m s e z = (engine_says m s e z).sizes

pub save_asks : (m : Machine) (e : Conf) (b : List ℕ) → Saves plain_kind m (length b) e → SaveOk m e b
save_asks m e b ok = let p = engine_says m ok.table e ok.fits.accepted in record { sizes = p.sizes; fits = p.fits; long = sym ok.fits.sized }

pub run_asks : (m : Machine) (s : List ℕ) (n : ℕ) (e : Conf) → Advances plain_kind m s n e → run_check m s n e ≡ Ok tt
run_asks m s n e ok = advance_asks m s n e ok.accepted ok.fuel
