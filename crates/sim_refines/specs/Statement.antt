-- THE PLAIN ENGINE REFINES THE TABLE MACHINE: the claim about a run of the engine's model. Definitions only.
use Rattle.symbol.specs.declared.State.{State}
use Rattle.std.specs.Prelude.{◌≡◌, Bool, true, false, List, ℕ, suc, ◌+◌, ◌≤◌, ◌<◌, ◌^◌, length, Ok, Option, Some}
use Rattle.outcome.specs.declared.NonHaltProof.{NonHaltProof}
use Rattle.outcome.specs.declared.Outcome.{Outcome}
use Rattle.outcome.specs.declared.Outcome.TheVariants.{OutOfFuel, NeverHalts, Stopped, Full}
use Rattle.machine.specs.declared.Machine.{Machine}
use Rattle.machine.specs.declared.Action.{Action}
use Rattle.machine.specs.Model.Check.{table_check}
use Rattle.table_laws.specs.WellFormed.{Bytes}
use Rattle.table_machine.specs.TableMachine.{Config, entry, run, Halted, halted_at, out_of_fuel_at}
pub use Rattle.table_machine.specs.Beside.{table_in, Judged, Unproved, has_rule}
use Rattle.run_checks.specs.declared.inner.look.Look.{Look}
use Rattle.run_checks.specs.declared.inner.look.Look.TheVariants.{Halt, Never, Go}
use Rattle.sim.specs.Model.Engine.{Task, task, Conf, End, roomy_of, run_of}
use Rattle.sim_refines.specs.Meaning.{config_of, EngineFits}

-- ---- the table machine beside the engine

-- the configuration that the engine holds, and the table machine's configuration j steps later
abbrev pub held_by : Task → Conf → Config
held_by k σ = config_of k.machine σ

abbrev pub after : Task → ℕ → Conf → Config
after k j σ = run (table_in k) j (held_by k σ)

-- ---- the look before a step

-- "halted, never, .. in that order, before each step"; the never test is made only where k.proves is true
pub data Sees (k : Task) (c : Config) : Look → Type 0 where
  no_entry : Halted (table_in k) c → Sees k c Halt
  loops : (p : NonHaltProof) → k.proves ≡ true → Judged k c (NeverHalts c.steps p) → Sees k c (Never p)
  goes_on : (a : Action) → entry (table_in k) c ≡ Some a → Unproved k c → Sees k c (Go a)

-- ---- a run

-- what a run keeps: e fits, its buffers are as long as those of σ, and a buffer of a tape that the machine lacks is unchanged
pub record Kept (m : Machine) (σ e : Conf) : Type 0 where
  pub fits : EngineFits m e
  pub same_length0 : length e.c0 ≡ length σ.c0
  pub same_length1 : length e.c1 ≡ length σ.c1
  pub same_length2 : length e.c2 ≡ length σ.c2
  pub left1 : m.tapes < 2 → e.c1 ≡ σ.c1
  pub left2 : m.tapes < 3 → e.c2 ≡ σ.c2

-- the engine went from σ to e by `made` steps of the table machine
pub record Went (k : Task) (made : ℕ) (σ e : Conf) : Type 0 where
  pub holds : held_by k e ≡ after k made σ
  pub counted : e.sim.steps ≡ σ.sim.steps + made
  pub kept : Kept k.machine σ e
  -- no configuration before the last one is halted or a proved loop
  pub running : (j : ℕ) → j < made → ¬ (Halted (table_in k) (after k j σ))
  pub unproved : (j : ℕ) → j < made → Unproved k (after k j σ)
  -- no step before the last one began in the rule's state
  pub unmatched : (j : ℕ) → suc j < made → has_rule k (after k j σ) ≡ false

-- the answer of a run from σ that made `made` of `fuel` steps and ended at e
pub data Answers (k : Task) (fuel made : ℕ) (σ e : Conf) : Outcome → Type 0 where
  -- with the never test: the verdict at e, which is out of fuel only where all the fuel was used
  verdict : (o : Outcome) → k.proves ≡ true → Judged k (held_by k e) o → ((n : ℕ) → o ≡ OutOfFuel n → made ≡ fuel) → Answers k fuel made σ e o
  -- without it: halted, or out of fuel
  halted : k.proves ≡ false → Halted (table_in k) (held_by k e) → Answers k fuel made σ e (halted_at (held_by k e))
  spent : k.proves ≡ false → ¬ (Halted (table_in k) (held_by k e)) → made ≡ fuel → Answers k fuel made σ e (out_of_fuel_at (held_by k e))
  -- "stops after the matching step"
  stopped : (j : ℕ) → made ≡ suc j → has_rule k (after k j σ) ≡ true → Answers k fuel made σ e (Stopped (held_by k e).steps)
  -- there is fuel and an entry a, but no room for its moves: no part of that step was made
  full : (a : Action) → made < fuel → entry (table_in k) (held_by k e) ≡ Some a → Unproved k (held_by k e) → roomy_of e a ≡ false
      → Answers k fuel made σ e (Full (held_by k e).steps)

-- a run from σ with end e is a run of the table machine
pub record Refines (k : Task) (fuel : ℕ) (σ : Conf) (e : End) : Type 0 where
  pub made : ℕ
  pub within : made ≤ fuel
  pub went : Went k made σ e.at
  pub answers : Answers k fuel made σ e.at e.outcome
  -- where the last step began in the rule's state, the answer is stopped
  pub stops : (j : ℕ) → made ≡ suc j → has_rule k (after k j σ) ≡ true → e.outcome ≡ Stopped e.at.sim.steps

-- for every table that is accepted, every engine value that fits, and fuel within the bound (the others are refused: 1 to 6, 12, 13)
abbrev pub PlainRefines : Type 0
PlainRefines = (m : Machine) (s : List ℕ) → Bytes s → table_check m s ≡ Ok tt → (proves : Bool) (rule : Option State) (fuel : ℕ) (σ : Conf)
    → EngineFits m σ → σ.sim.steps + fuel ≤ 2 ^ 62 → Refines (task m s proves rule) fuel σ (run_of (task m s proves rule) fuel σ)
