-- The run-length engine over its lent places, as the code runs it: the configuration, what comes next, a macro step, the run. Definitions only.
use Rattle.std.specs.declared.ops.ControlFlow.{ControlFlow}
use Rattle.std.specs.declared.ops.ControlFlow.TheVariants.{Break, Continue}
use Rattle.std.specs.Prelude.{Bool, List, ℕ, zero, suc, ◌+◌, ◌-◌, eqb, None, Option, Some}
use Rattle.notation.specs.Choice.{pick, both}
use Rattle.symbol.specs.declared.State.{State}
use Rattle.symbol.specs.declared.Dir.{Dir}
use Rattle.symbol.specs.declared.Dir.TheVariants.{L, R, N}
use Rattle.outcome.specs.declared.Outcome.{Outcome}
use Rattle.outcome.specs.declared.Outcome.TheVariants.{Halted, OutOfFuel, NeverHalts, Full}
use Rattle.machine.specs.declared.Action.{Action}
use Rattle.run_checks.specs.Model.Look.{entry_of}
use Rattle.run_rules.specs.Model.Task.{Task, matches}
use Rattle.rle_stack.specs.Model.{Side, side, places_of}
use Rattle.rle_counts.specs.Model.Counts.{fuel_then, Tally, tallied}
use Rattle.rle_macro.specs.declared.inner.macro_step.Step.{Step}
use Rattle.rle.specs.declared.ChainSim.{ChainSim}
use Rattle.rle_macro.specs.Model.MacroStep.{times_for}
pub use Rattle.rle_macro.specs.Model.MacroStep.{Carried, carried}
unfoldable pub use Rattle.rle_macro.specs.Model.MacroStep.{loops_for, proof_of, chain_for, full_for, carry_of}

-- ---- the engine's value with its four slices: symbols and lengths of the left side, then of the right

pub record Conf : Type 0 where
  pub sim : ChainSim
  pub ls : List ℕ
  pub ll : List ℕ
  pub rs : List ℕ
  pub rl : List ℕ

abbrev pub conf : ChainSim → (ls ll rs rl : List ℕ) → Conf
conf v ls ll rs rl = record { sim = v; ls = ls; ll = ll; rs = rs; rl = rl }

abbrev pub left_of : Conf → Side
left_of σ = side σ.ls σ.ll σ.sim.tape.left

abbrev pub right_of : Conf → Side
right_of σ = side σ.rs σ.rl σ.sim.tape.right

-- ---- what comes next: "halted, never, fuel", "the stop rule .. after fuel and before space", space, a macro step

-- a macro step: an entry of one tape, followed `repeats` times in a row
pub record Macro : Type 0 where
  pub write : ℕ
  pub dir : Dir
  pub next : State
  pub repeats : ℕ

-- the run's end, or a macro step
pub data Plan : Type 0 where
  Stop : Outcome → Plan
  Go : Macro → Plan

-- an entry is a proved loop if it keeps the state and either stays and rewrites the symbol read, or moves from a blank to a side without runs
abbrev pub loops_of : State → Action → (cur lefts rights : ℕ) → Bool
loops_of q a cur l r = both (eqb a.next.0 q.0) (loops_for a.dir0 a.write0.0 cur l r)

abbrev pub step_of : (loops : Bool) → Action → State → Step
step_of loops a q = record { write = a.write0.0; dir = a.dir0; next = a.next; keeps = eqb a.next.0 q.0; loops = loops }

-- the run's end or the entry to follow, before the test for space: fuel, then the stop rule
unfoldable pub fueled_of : (loops : Bool) → Option State → Action → ℕ → ChainSim → ControlFlow Outcome Step
fueled_of loops rule a fuel v =
    fuel_then Break fuel v.steps (matches rule v.state) (Continue (step_of loops a v.state))

-- first a proved loop, where the never test is made; then `fueled_of`
unfoldable pub proved_of : (proves loops : Bool) → Option State → Action → ℕ → ChainSim → ControlFlow Outcome Step
proved_of proves loops rule a fuel v =
    pick (both loops proves) (Break (NeverHalts v.steps (proof_of v.state a.dir0))) (fueled_of loops rule a fuel v)

-- first an undefined entry; then `proved_of`
unfoldable pub turn_on : Option Action → (proves : Bool) → Option State → ℕ → ChainSim → ControlFlow Outcome Step
turn_on None proves rule fuel v = Break (Halted v.steps v.state)
turn_on (Some a) proves rule fuel v =
    proved_of proves (loops_of v.state a v.tape.cur v.tape.left v.tape.right) rule a fuel v

unfoldable pub turn_of : Task → ℕ → ChainSim → ControlFlow Outcome Step
turn_of k fuel v =
    turn_on (entry_of k.machine k.table v.state v.tape.cur 0 0) k.proves k.rule fuel v

-- whether the push of a step that writes w and moves by d has no place
abbrev pub no_place : Dir → (write : ℕ) → Conf → Bool
no_place d w σ = full_for d w (places_of σ.ls σ.ll) (places_of σ.rs σ.rl) (left_of σ) (right_of σ)

abbrev pub times_of : Step → ℕ → Conf → ℕ
times_of s fuel σ = times_for s.dir s.loops s.keeps σ.sim.tape.cur fuel (left_of σ) (right_of σ)

abbrev pub macro_by : Step → ℕ → Macro
macro_by s n = record { write = s.write; dir = s.dir; next = s.next; repeats = n }

-- then the test for space, and the macro step
abbrev pub plan_by : ControlFlow Outcome Step → ℕ → Conf → Plan
plan_by (Break o) fuel σ = Stop o
plan_by (Continue s) fuel σ = pick (no_place s.dir s.write σ) (Stop (Full σ.sim.steps)) (Go (macro_by s (times_of s fuel σ)))

unfoldable pub plan_of : Task → ℕ → Conf → Plan
plan_of k fuel σ = plan_by (turn_of k fuel σ.sim) fuel σ

-- ---- a macro step

-- the engine's numbers, and the engine with given numbers
abbrev pub tally_of : ChainSim → Tally
tally_of v = record { steps = v.steps; macros = v.macros; head = v.tape.head; lowest = v.lowest; highest = v.highest }

abbrev pub sim_with : State → Tally → (left cur right : ℕ) → ChainSim
sim_with q t l cur r = record {
  state = q;
  steps = t.steps;
  macros = t.macros;
  tape = record { left = l; cur = cur; right = r; head = t.head };
  lowest = t.lowest;
  highest = t.highest;
}

abbrev pub landed : Macro → Conf → (head cur : ℕ) → (left right : Side) → Conf
landed j σ head cur l r =
    conf (sim_with j.next (tallied (tally_of σ.sim) j.repeats head) l.count cur r.count)
    l.symbols l.lengths r.symbols r.lengths

abbrev pub leftward : Macro → Conf → Carried → Conf
leftward j σ c = landed j σ (σ.sim.tape.head - j.repeats) c.cur c.ahead c.behind

abbrev pub rightward : Macro → Conf → Carried → Conf
rightward j σ c = landed j σ (σ.sim.tape.head + j.repeats) c.cur c.behind c.ahead

unfoldable pub macro_to : Dir → Macro → Conf → Conf
macro_to L j σ = leftward j σ (carry_of j.write j.repeats (right_of σ) (left_of σ))
macro_to R j σ = rightward j σ (carry_of j.write j.repeats (left_of σ) (right_of σ))
macro_to N j σ = landed j σ σ.sim.tape.head j.write (left_of σ) (right_of σ)

abbrev pub macro_of : Macro → Conf → Conf
macro_of j σ = macro_to j.dir j σ

-- ---- a run

pub record End : Type 0 where
  pub at : Conf
  pub outcome : Outcome

abbrev pub end : Conf → Outcome → End
end σ o = record { at = σ; outcome = o }

abbrev pub on_plan : {A : Type 0} → Plan → (Outcome → A) → (Macro → A) → A
on_plan (Stop o) s g = s o
on_plan (Go j) s g = g j

-- a run of at most `most` macro steps; every `most` above the fuel gives the same end
unfoldable pub run_within : Task → (most fuel : ℕ) → Conf → End
run_within k zero fuel σ = end σ (OutOfFuel σ.sim.steps)
run_within k (suc n) fuel σ = on_plan (plan_of k fuel σ) (end σ) (λ j. run_within k n (fuel - j.repeats) (macro_of j σ))

unfoldable pub run_of : Task → ℕ → Conf → End
run_of k fuel σ = run_within k (suc fuel) fuel σ
