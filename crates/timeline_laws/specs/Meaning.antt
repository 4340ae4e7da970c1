-- A kind of engine with the notions of the theorem: the configuration that an engine holds, and which step is full by its rule. Definitions only.
use Rattle.std.specs.Prelude.{ℕ, List}
use Rattle.machine.specs.declared.Machine.{Machine}
use Rattle.table_machine.specs.TableMachine.{Config}
use Rattle.timeline_rule.specs.Model.Kind.{Kind}

pub record EngineMeaning : Type 1 where
  pub kind : Kind
  -- the configuration that an engine holds
  pub config : Machine → kind.State → Config
  -- after j steps from an engine's configuration, the next step is full by the engine's rule, in its buffers
  pub FullStep : Machine → (table : List ℕ) → kind.State → ℕ → Type 0
  -- the two engines are the same: all that document 01 determines is equal, except the fields of tapes that the machine lacks
  pub Same : Machine → kind.State → kind.State → Type 0
