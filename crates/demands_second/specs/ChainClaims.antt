-- The claims of SecondChain about a macro step, about the macro steps of a run, and about the runs of a side as records. Definitions only.
use Rattle.std.specs.Prelude.{◌≡◌, List, [], ◌∷◌, ◌++◌, ℕ, suc, ◌+◌, ◌-◌, ◌≤◌, ◌<◌, min, eqb, drop, Some}
use Rattle.notation.specs.Choice.{pick}
use Rattle.symbol.specs.Kinds.{symbol_of}
use Rattle.symbol.specs.declared.Dir.{Dir}
use Rattle.symbol.specs.declared.Dir.TheVariants.{L, R, N}
use Rattle.outcome.specs.declared.NonHaltProof.{NonHaltProof}
use Rattle.outcome.specs.declared.Outcome.TheVariants.{NeverHalts}
use Rattle.machine.specs.declared.Machine.{Machine}
use Rattle.machine.specs.declared.Action.{Action}
use Rattle.table_machine.specs.TableMachine.{Table, Config, read_t, entry, run, Sideways, Verdict}
use Rattle.sim.specs.Model.Engine.{Task}
use Rattle.rle_records.specs.declared.Run.{Run}
use Rattle.rle.specs.Model.Engine.{Conf, left_of, right_of, macro_of, run_of, Macro}
use Rattle.rle_refines.specs.Meaning.{Stack, empty, over, stack_of, config_of}
use Rattle.rle_refines.specs.Full.{height, Stacked}
use Rattle.rle_refines.specs.Statement.{table_in, Went}
use Rattle.demands_second.specs.Space.{GoesOn}

-- ---- a macro step

-- "the entry keeps the state and moves"
abbrev pub Repeated : Config → Action → Type 0
Repeated c a = (a.next.0 ≡ c.state) × Sideways a.dir0

-- "the run ahead (a top run of the symbol read)": the length of the top run where its symbol is the one read, else 0
abbrev pub run_ahead : (read : ℕ) → Stack → ℕ
run_ahead a empty = 0
run_ahead a (over s n r) = pick (eqb s a) n 0

abbrev pub stack_ahead : Dir → (left right : Stack) → Stack
stack_ahead L l r = l
stack_ahead R l r = r
stack_ahead N l r = r

-- "A macro step is one step; where the entry keeps the state and moves, it is the run ahead (a top run of the symbol read) plus one, or the fuel if less; a proved
-- loop covers all the fuel.": the number of steps, from a configuration with entry a and these two stacks
pub data Lasts (m : Machine) (d : Table) (fuel : ℕ) (c : Config) (a : Action) (left right : Stack) : ℕ → Type 0 where
  one : GoesOn m d c → ¬ (Repeated c a) → Lasts m d fuel c a left right 1
  ahead : GoesOn m d c → Repeated c a → Lasts m d fuel c a left right (min (run_ahead (read_t c.tape0) (stack_ahead a.dir0 left right) + 1) fuel)
  loop : (p : NonHaltProof) → Verdict m.tapes d c (NeverHalts c.steps p) → Lasts m d fuel c a left right fuel

-- the macro step j from σ, with this fuel
pub record MacroStep (k : Task) (fuel : ℕ) (σ : Conf) (j : Macro) : Type 0 where
  -- with n repeats it is n steps of the table machine: state, steps, every cell, head, lowest and highest agree. Before each of these steps the configuration is
  -- not halted, not a proved loop (where that is tested), and not in the stop rule's state; none of the steps is full
  pub went : Went k j.repeats σ (macro_of j σ)
  pub some : 1 ≤ j.repeats
  pub within : j.repeats ≤ fuel
  pub lasts : (a : Action) → entry (table_in k) (config_of σ) ≡ Some a
      → Lasts k.machine (table_in k) fuel (config_of σ) a (stack_of (left_of σ)) (stack_of (right_of σ)) j.repeats
  -- "`macro_steps` adds one a macro step"
  pub counted : (macro_of j σ).sim.macros ≡ σ.sim.macros + 1
  -- the run is this macro step, then the run from there
  pub runs_on : run_of k fuel σ ≡ run_of k (fuel - j.repeats) (macro_of j σ)

-- ---- the macro steps of a run

-- n macro steps lead the table machine from one configuration to the other, with this fuel for all of them
pub data Macros (m : Machine) (d : Table) : (fuel : ℕ) → Config → (n : ℕ) → Config → Type 0 where
  none : {fuel : ℕ} {c : Config} → Macros m d fuel c 0 c
  -- a macro step of j steps, then the others with the remaining fuel
  more : {fuel n : ℕ} {c e : Config} (a : Action) (left right : Stack) (j : ℕ) → 0 < fuel → entry d c ≡ Some a → Stacked m.symbols c.tape0 left right
      → Lasts m d fuel c a left right j → Macros m d (fuel - j) (run d j c) n e → Macros m d fuel c (suc n) e

-- ---- "the runs of one side, topmost last, symbol and length together"

abbrev pub topmost_last : Stack → List Run
topmost_last empty = []
topmost_last (over s n rest) = topmost_last rest ++ (record { symbol = symbol_of s; len = n } ∷ [])

-- a lent slice before and after n runs of a stack are written to it
pub record Lists (x : Stack) (n : ℕ) (before after : List Run) : Type 0 where
  -- n is the number of runs of the stack
  pub number : n ≡ height x
  -- the first places hold the runs, and the places past them are as they were
  pub places : after ≡ topmost_last x ++ drop n before
