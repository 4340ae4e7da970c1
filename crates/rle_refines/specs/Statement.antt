-- THE RUN-LENGTH ENGINE REFINES THE TABLE MACHINE: the claim about a run of the engine's model. Definitions only.
use Rattle.symbol.specs.declared.State.{State}
use Rattle.std.specs.Prelude.{◌≡◌, Bool, true, false, List, ℕ, ◌+◌, ◌≤◌, ◌<◌, ◌^◌, length, Ok, Option, Some}
use Rattle.outcome.specs.declared.Outcome.{Outcome}
use Rattle.outcome.specs.declared.Outcome.TheVariants.{OutOfFuel, Stopped, Full}
use Rattle.machine.specs.declared.Machine.{Machine}
use Rattle.machine.specs.declared.Action.{Action}
use Rattle.machine.specs.Model.Check.{table_check}
use Rattle.table_laws.specs.WellFormed.{Bytes}
use Rattle.table_machine.specs.TableMachine.{Config, entry, run, Halted, halted_at, out_of_fuel_at}
pub use Rattle.table_machine.specs.Beside.{table_in, Judged, Unproved, has_rule}
use Rattle.run_rules.specs.Model.Task.{Task, task}
use Rattle.rle_stack.specs.Model.{places_of}
use Rattle.rle.specs.Model.Engine.{Conf, no_place, End, run_of}
use Rattle.rle_refines.specs.Meaning.{config_of, ChainFits}
use Rattle.rle_refines.specs.Full.{FullAt}

-- ---- the table machine beside the engine

-- the table machine's configuration j steps after the one that the engine holds
abbrev pub after : Task → ℕ → Conf → Config
after k j σ = run (table_in k) j (config_of σ)

-- "Full exactly when the step's push needs a new run on a side whose live runs fill its lent places."
abbrev pub is_full : Conf → Action → Bool
is_full σ a = no_place a.dir0 a.write0.0 σ

-- the same for the table machine's step from the configuration after j steps, with the lent places of σ
abbrev pub FullAfter : Task → ℕ → Conf → Type 0
FullAfter k j σ = FullAt k.machine (table_in k) (places_of σ.ls σ.ll) (places_of σ.rs σ.rl) (after k j σ)

-- one of the next `fuel` steps is full
pub record FullWithin (k : Task) (fuel : ℕ) (σ : Conf) : Type 0 where
  pub at : ℕ
  pub within : at < fuel
  pub is : FullAfter k at σ

-- ---- a run

-- what a run keeps: e fits, and its lists are as long as those of σ
pub record Kept (m : Machine) (σ e : Conf) : Type 0 where
  pub fits : ChainFits m e
  pub same_ls : length e.ls ≡ length σ.ls
  pub same_ll : length e.ll ≡ length σ.ll
  pub same_rs : length e.rs ≡ length σ.rs
  pub same_rl : length e.rl ≡ length σ.rl

-- the engine went from σ to e by `made` steps of the table machine
pub record Went (k : Task) (made : ℕ) (σ e : Conf) : Type 0 where
  pub holds : config_of e ≡ after k made σ
  pub counted : e.sim.steps ≡ σ.sim.steps + made
  -- "`macro_steps` adds one a macro step", and a macro step is one step or more
  pub macros : e.sim.macros ≤ σ.sim.macros + made
  pub kept : Kept k.machine σ e
  -- no configuration before the last one is halted, is a proved loop, or has the stop rule's state
  pub running : (j : ℕ) → j < made → ¬ (Halted (table_in k) (after k j σ))
  pub unproved : (j : ℕ) → j < made → Unproved k (after k j σ)
  pub unmatched : (j : ℕ) → j < made → has_rule k (after k j σ) ≡ false
  -- no step that was made is full, also inside a macro step
  pub roomy : (j : ℕ) → j < made → ¬ (FullAfter k j σ)

-- the answer of a run that made `made` of `fuel` steps and ended at e
pub data Answers (k : Task) (fuel made : ℕ) (e : Conf) : Outcome → Type 0 where
  -- with the never test: the verdict at e; out of fuel only where all the fuel was used
  verdict : (o : Outcome) → k.proves ≡ true → Judged k (config_of e) o → ((n : ℕ) → o ≡ OutOfFuel n → made ≡ fuel) → Answers k fuel made e o
  -- without the never test: halted, or out of fuel
  halted : k.proves ≡ false → Halted (table_in k) (config_of e) → Answers k fuel made e (halted_at (config_of e))
  spent : k.proves ≡ false → ¬ (Halted (table_in k) (config_of e)) → made ≡ fuel → Answers k fuel made e (out_of_fuel_at (config_of e))
  -- "The stop rule is tested before the macro step, after fuel and before space."
  stopped : (a : Action) → made < fuel → entry (table_in k) (config_of e) ≡ Some a → Unproved k (config_of e) → has_rule k (config_of e) ≡ true
      → Answers k fuel made e (Stopped (config_of e).steps)
  -- there is fuel and an entry a, but no place for its push: that step was not made
  full : (a : Action) → made < fuel → entry (table_in k) (config_of e) ≡ Some a → Unproved k (config_of e) → has_rule k (config_of e) ≡ false
      → is_full e a ≡ true → Answers k fuel made e (Full (config_of e).steps)

-- the run from σ that ended in e is a run of the table machine
pub record Refines (k : Task) (fuel : ℕ) (σ : Conf) (e : End) : Type 0 where
  pub made : ℕ
  pub within : made ≤ fuel
  pub went : Went k made σ e.at
  pub answers : Answers k fuel made e.at e.outcome

-- for every accepted table of one tape, every engine value that fits, and fuel within the bound (the others are refused: 1 to 6, 8, 12, 13)
abbrev pub ChainRefines : Type 0
ChainRefines = (m : Machine) (s : List ℕ) → Bytes s → table_check m s ≡ Ok tt → m.tapes ≡ 1 → (proves : Bool) (rule : Option State) (fuel : ℕ) (σ : Conf)
    → ChainFits m σ → σ.sim.steps + fuel ≤ 2 ^ 62 → Refines (task m s proves rule) fuel σ (run_of (task m s proves rule) fuel σ)
