-- When a run-length engine's value fits (refusal 12), and the sizes of its places (11). Definitions only.
use Rattle.outcome.specs.declared.Refusal.{Refusal}
use Rattle.std.specs.Prelude.{Bool, List, ℕ, ◌+◌, ◌-◌, eqb, ltb, leb, Ok, Result, ⊤}
use Rattle.notation.specs.Choice.{both}
use Rattle.notation.specs.Limits.{steps_most, runs_most, slack, raised_zero}
use Rattle.outcome.specs.declared.Refusal.TheVariants as Why
use Rattle.machine.specs.declared.Machine.{Machine}
use Rattle.machine.specs.Model.Check.{demand, checked_on, table_check}
use Rattle.run_checks.specs.Model.Sizes.{fuel_fits}
use Rattle.rle_stack.specs.Model.{places_of, cells_of}
pub use Rattle.rle_counts.specs.Model.Sums.{sides_fit}
unfoldable pub use Rattle.rle_counts.specs.Model.Sums.{side_fits}
use Rattle.rle.specs.declared.ChainSim.{ChainSim}
use Rattle.rle.specs.Model.Engine.{Conf, left_of, right_of}

-- "lowest ≤ head ≤ highest, all within steps of 0"
unfoldable pub head_fits : ChainSim → Bool
head_fits v =
    both (leb v.lowest v.tape.head)
    (both (leb v.tape.head v.highest)
    (both (leb (raised_zero - v.steps) v.lowest) (leb v.highest (raised_zero + v.steps))))

-- a side's "furthest cell's distance from 0, at most steps + 2^20"; by `head_fits` the head is within steps of 0
unfoldable pub reach_fits : ChainSim → (lefts rights : ℕ) → Bool
reach_fits v l r =
    both (leb (raised_zero + l) (v.tape.head + v.steps + slack)) (leb (v.tape.head + r) (raised_zero + v.steps + slack))

-- "Fits: state below n, steps to 2^62, symbols below k .. macro steps at most steps."
unfoldable pub counts_fit : Machine → ChainSim → Bool
counts_fit m v =
    both (ltb v.state.0 m.states)
    (both (leb v.steps steps_most) (both (leb v.macros v.steps) (ltb v.tape.cur m.symbols)))

unfoldable pub chain_fits : Machine → Conf → Bool
chain_fits m σ =
    both (counts_fit m σ.sim)
    (both (head_fits σ.sim)
    (sides_fit m.symbols (places_of σ.ls σ.ll) (places_of σ.rs σ.rl) σ.sim.steps (left_of σ) (right_of σ)
    (reach_fits σ.sim (cells_of (left_of σ)) (cells_of (right_of σ)))))

-- "a run side over 1,048,576"
unfoldable pub places_fit : Conf → Bool
places_fit σ = both (leb (places_of σ.ls σ.ll) runs_most) (leb (places_of σ.rs σ.rl) runs_most)

-- refusals 8, 11, 12
unfoldable pub value_check : Machine → Conf → Result ⊤ Refusal
value_check m σ =
    demand (eqb m.tapes 1) Why.SeveralTapes
    (demand (places_fit σ) Why.BufferSize (demand (chain_fits m σ) Why.Misfit (Ok tt)))

-- the table check, then refusals 8, 11, 12
unfoldable pub engine_check : Machine → List ℕ → Conf → Result ⊤ Refusal
engine_check m s σ = checked_on (table_check m s) (value_check m σ)

-- then refusal 13
unfoldable pub run_check : Machine → List ℕ → ℕ → Conf → Result ⊤ Refusal
run_check m s fuel σ = checked_on (engine_check m s σ) (demand (fuel_fits σ.sim.steps fuel) Why.StepLimit (Ok tt))
