-- What it is that an engine fits, with given numbers of places. Assumes nothing.
use Rattle.std.specs.Prelude.{◌≡◌, List, ℕ, Ok}
use Rattle.machine.specs.declared.Machine.{Machine}
use Rattle.rle.specs.Model.Engine.{Conf}
use Rattle.rle.specs.Fits.{engine_check}
use Rattle.rle_slots.specs.Model.Slots.{lefts_of, rights_of}

-- the check accepts the engine, and it has the given numbers of places
pub record Fits (m : Machine) (s : List ℕ) (lefts rights : ℕ) (σ : Conf) : Type 0 where
  pub accepted : engine_check m s σ ≡ Ok tt
  pub in_lefts : lefts_of σ ≡ lefts
  pub in_rights : rights_of σ ≡ rights
