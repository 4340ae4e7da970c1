-- The operations of an engine and its store that a timeline uses. Their laws are not here, so that contracts can cite these definitions. Definitions only.
use Rattle.outcome.specs.declared.Refusal.{Refusal}
use Rattle.std.specs.Prelude.{ℕ, Option, Result, ⊤}

-- `State` is the engine's value with its lent buffers; `Out` is the type of its answers
pub record Ops (Out : Type 0) : Type 1 where
  pub State : Type 0
  pub Store : Type 0
  -- the step count
  pub now : State → ℕ
  -- the table check, then refusals 8, 11 and 12
  pub check : State → Result ⊤ Refusal
  -- "Each advance runs without the never test, then tests it with fuel 0."
  pub advance : ℕ → State → Out × State
  -- the number of slots of the store
  pub slots : Store → ℕ
  -- saves the engine in slot i
  pub save : ℕ → State → Store → Store
  -- copies slot i to slot k
  pub move : ℕ → ℕ → Store → Store
  -- reads slot i, which must hold a fitting engine of the given step, into the engine's buffers
  pub restore : ℕ → ℕ → State → Store → Option State
