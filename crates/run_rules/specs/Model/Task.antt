-- What stays the same through a run of either engine, and the stop rule. Definitions only.
use Rattle.std.specs.Prelude.{Bool, false, List, ℕ, eqb, None, Option, Some}
use Rattle.symbol.specs.declared.State.{State}
use Rattle.machine.specs.declared.Machine.{Machine}

pub record Task : Type 0 where
  pub machine : Machine
  pub table : List ℕ
  -- whether the never test is made
  pub proves : Bool
  pub rule : Option State

abbrev pub task : Machine → List ℕ → Bool → Option State → Task
task m s p r = record { machine = m; table = s; proves = p; rule = r }

-- "none, or a `from` state, one not below n never matching"
unfoldable pub matches : Option State → State → Bool
matches None q = false
matches (Some p) q = eqb p.0 q.0
