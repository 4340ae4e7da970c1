-- RENAMINGS (document 02, request 10): "permuting a one-tape table's states, start included, gives .. the same steps, head and cells, the state renamed". Definitions only.
use Rattle.std.specs.Prelude.{◌≡◌, ℕ, ◌<◌, None, Option, Some}
use Rattle.symbol.specs.Kinds.{state_of}
use Rattle.symbol.specs.declared.State.{State}
use Rattle.outcome.specs.declared.NonHaltProof.{NonHaltProof}
use Rattle.outcome.specs.declared.NonHaltProof.TheVariants.{StayLoop, ChainToInfinity}
use Rattle.outcome.specs.declared.Outcome.{Outcome}
use Rattle.outcome.specs.declared.Outcome.TheVariants.{Halted, OutOfFuel, NeverHalts, Stopped, Full}
use Rattle.machine.specs.declared.Machine.{Machine}
use Rattle.machine.specs.declared.Action.{Action}
use Rattle.table_machine.specs.TableMachine.{Config}

-- a permutation of the states below n: `to` gives a state's new number, `from` the state that has a new number
pub record Permutes (n : ℕ) (to from : ℕ → ℕ) : Type 0 where
  pub to_in : (q : ℕ) → q < n → to q < n
  pub from_in : (q : ℕ) → q < n → from q < n
  pub to_from : (q : ℕ) → q < n → to (from q) ≡ q
  pub from_to : (q : ℕ) → q < n → from (to q) ≡ q

-- ---- the table: "permuting .. states, start included"

abbrev pub renamed_state : (ℕ → ℕ) → State → State
renamed_state to q = state_of (to q.0)

abbrev pub renamed_action : (ℕ → ℕ) → Action → Action
renamed_action to a = record {
  next = renamed_state to a.next;
  write0 = a.write0;
  write1 = a.write1;
  write2 = a.write2;
  dir0 = a.dir0;
  dir1 = a.dir1;
  dir2 = a.dir2;
}

abbrev pub renamed_entry : (ℕ → ℕ) → Option Action → Option Action
renamed_entry to None = None
renamed_entry to (Some a) = Some (renamed_action to a)

abbrev pub renamed_machine : (ℕ → ℕ) → Machine → Machine
renamed_machine to m = record { tapes = m.tapes; symbols = m.symbols; states = m.states; start = to m.start }

-- ---- the configuration: "the same steps, head and cells, the state renamed"

abbrev pub renamed_config : (ℕ → ℕ) → Config → Config
renamed_config to c = record { state = to c.state; steps = c.steps; tape0 = c.tape0; tape1 = c.tape1; tape2 = c.tape2 }

-- ---- the verdict

abbrev pub renamed_proof : (ℕ → ℕ) → NonHaltProof → NonHaltProof
renamed_proof to (StayLoop q) = StayLoop (renamed_state to q)
renamed_proof to (ChainToInfinity q d) = ChainToInfinity (renamed_state to q) d

abbrev pub renamed_outcome : (ℕ → ℕ) → Outcome → Outcome
renamed_outcome to (Halted n q) = Halted n (renamed_state to q)
renamed_outcome to (OutOfFuel n) = OutOfFuel n
renamed_outcome to (NeverHalts n p) = NeverHalts n (renamed_proof to p)
renamed_outcome to (Stopped n) = Stopped n
renamed_outcome to (Full n) = Full n
