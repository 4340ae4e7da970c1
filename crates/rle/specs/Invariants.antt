-- What the functions of a run and of the questions may assume. Definitions only.
use Rattle.std.specs.Prelude.{◌≡◌, true, List, ℕ, ◌+◌, ◌≤◌, length, None}
use Rattle.notation.specs.Limits.{steps_most, slack, raised_zero}
use Rattle.symbol.specs.declared.State.{State}
use Rattle.symbol.specs.declared.Dir.{Dir}
use Rattle.outcome.specs.declared.Outcome.{Outcome}
use Rattle.machine.specs.declared.Machine.{Machine}
use Rattle.machine.specs.Layout.{stride_of}
use Rattle.rle_stack.specs.Model.{places_of, cells_of}
use Rattle.rle_stack.specs.Invariants.{SideOk}
use Rattle.rle.specs.declared.ChainSim.{ChainSim}
use Rattle.run_rules.specs.Model.Task.{Task, task}
use Rattle.rle_macro.specs.Model.MacroStep.{head_for}
use Rattle.rle_counts.specs.Model.Counts.{tallied}
use Rattle.rle.specs.Model.Engine.{Conf, conf, left_of, right_of, tally_of, sim_with, end, run_of}

-- the machine's numbers, from which an entry's number is computed
pub record TableOk (m : Machine) (stride : ℕ) : Type 0 where
  pub symbols_in : m.symbols ≤ 256
  pub stride_is : stride ≡ stride_of m
  pub stride_in : stride ≤ 16777216

-- both sides' live runs have places, and their cells are few enough to be counted
pub record SidesOk (σ : Conf) : Type 0 where
  pub left : SideOk (places_of σ.ls σ.ll) (σ.sim.steps + slack) (left_of σ)
  pub right : SideOk (places_of σ.rs σ.rl) (σ.sim.steps + slack) (right_of σ)

-- with this much fuel no count and no position passes its bound
pub record CountsOk (v : ChainSim) (fuel : ℕ) : Type 0 where
  pub steps_in : v.steps + fuel ≤ steps_most
  pub fewer : v.macros ≤ v.steps
  pub above : raised_zero ≤ v.tape.head + v.steps
  pub below : v.tape.head ≤ raised_zero + v.steps

pub record RunOk (m : Machine) (stride : ℕ) (σ : Conf) (fuel : ℕ) : Type 0 where
  pub table : TableOk m stride
  pub sides : SidesOk σ
  pub counts : CountsOk σ.sim fuel

-- the value after a macro step of n steps that leaves l and r live runs and the symbol c under the head
abbrev pub landed_by : Dir → (next : State) → ChainSim → (left cur right n : ℕ) → ChainSim
landed_by d q v l c r n = sim_with q (tallied (tally_of v) n (head_for d v.tape.head n)) l c r

-- the lent slices are as long as they were
pub record SameSizes (σ τ : Conf) : Type 0 where
  pub ls : length τ.ls ≡ length σ.ls
  pub ll : length τ.ll ≡ length σ.ll
  pub rs : length τ.rs ≡ length σ.rs
  pub rl : length τ.rl ≡ length σ.rl

-- a run from σ₀ with `fuel` has come to σ with fuel `left`, and the run from there has the same end
pub record Going (k : Task) (stride lp rp : ℕ) (σ₀ : Conf) (fuel : ℕ) (σ : Conf) (left : ℕ) : Type 0 where
  pub ok : RunOk k.machine stride σ left
  pub lefts : lp ≡ places_of σ.ls σ.ll
  pub rights : rp ≡ places_of σ.rs σ.rl
  pub sizes : SameSizes σ₀ σ
  pub same : run_of k left σ ≡ run_of k fuel σ₀

-- o is the outcome of a run with fuel 0 on the value v, whatever its places contain
pub record Judged (m : Machine) (s : List ℕ) (v : ChainSim) (o : Outcome) : Type 0 where
  pub same : (ls ll rs rl : List ℕ) → end (conf v ls ll rs rl) o ≡ run_of (task m s true None) 0 (conf v ls ll rs rl)

-- what a question on the tape may assume
pub record AskOk (σ : Conf) : Type 0 where
  pub sides : SidesOk σ
  pub counts : CountsOk σ.sim 0
  pub left_far : raised_zero + cells_of (left_of σ) ≤ σ.sim.tape.head + σ.sim.steps + slack
  pub right_far : σ.sim.tape.head + cells_of (right_of σ) ≤ raised_zero + σ.sim.steps + slack
