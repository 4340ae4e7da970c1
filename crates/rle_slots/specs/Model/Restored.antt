-- The answer of reading a slot, and the lent places after it. Definitions only.
use Rattle.rle.specs.declared.ChainSim.{ChainSim}
use Rattle.std.specs.Prelude.{List, ℕ, None, Option, Some}
use Rattle.notation.specs.Choice.{pick}
use Rattle.machine.specs.declared.Machine.{Machine}
use Rattle.rle.specs.Model.Engine.{Conf}
use Rattle.rle_slots.specs.Model.Slots.{value_in, Lent, lent, holds_one, unpacked}

-- what a slot for l and r places holds
unfoldable pub found_in : Machine → (l r : ℕ) → List ℕ → (step : ℕ) → Option ChainSim
found_in m l r b step = pick (holds_one m l r b step) (Some (value_in b)) None

-- the answer, with the places after it
pub record Restored : Type 0 where
  pub answer : Option ChainSim
  pub places : Lent

abbrev pub restored : Option ChainSim → Lent → Restored
restored f t = record { answer = f; places = t }

-- where no engine is found, the places are unchanged
abbrev pub restored_by : Option Conf → Lent → Restored
restored_by None t = restored None t
restored_by (Some σ) t = restored (Some σ.sim) (lent σ.ls σ.ll σ.rs σ.rl)

abbrev pub restored_of : Machine → List ℕ → (step : ℕ) → Lent → Restored
restored_of m b step t = restored_by (unpacked m b step t) t
