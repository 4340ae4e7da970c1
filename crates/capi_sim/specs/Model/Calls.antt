-- The effect of each C call of the plain engine: its result, the engine's numbers, the answer's values, and the cells. Definitions only.
use Rattle.outcome.specs.declared.Refusal.{Refusal}
use Rattle.outcome.specs.declared.Outcome.{Outcome}
use Rattle.std.specs.Prelude.{◌≡◌, List, ℕ, Err, Ok, Result}
use Rattle.outcome.specs.Numbers.{refusal_number}
use Rattle.sim.specs.declared.Simulator.{Simulator}
use Rattle.sim.specs.Model.Operations.{Given, StepGiven, Made}
use Rattle.capi_engines.specs.Model.Engines.{with_engine}
use Rattle.capi_numbers.specs.Model.Answers.{refused_out, result_code, result_out, outcome_out, status_out}

-- ---- calls that hand back an engine

pub record Call : Type 0 where
  pub code : ℕ
  pub state : ℕ
  pub engine : List ℕ
  pub out : List ℕ
  pub c0 : List ℕ
  pub c1 : List ℕ
  pub c2 : List ℕ

abbrev pub call : (code state : ℕ) (engine out c0 c1 c2 : List ℕ) → Call
call code state engine out c0 c1 c2 = record { code = code; state = state; engine = engine; out = out; c0 = c0; c1 = c1; c2 = c2 }

-- the numbers that an engine v and an answer a leave: the result n, the state q, the engine's numbers ys for xs, and the values ts for os in `out`
pub record HandedBack (v : Simulator) (a : Result Outcome Refusal) (xs os : List ℕ) (n q : ℕ) (ys ts : List ℕ) : Type 0 where
  pub code : n ≡ result_code a
  pub state : q ≡ v.state.0
  pub engine : ys ≡ with_engine xs v
  pub out : ts ≡ result_out outcome_out a os

unfoldable pub ran_call : Given → (engine out : List ℕ) → Call
ran_call g engine out =
    call (result_code g.answer) g.at.sim.state.0 (with_engine engine g.at.sim) (result_out outcome_out g.answer out) g.at.c0 g.at.c1 g.at.c2

unfoldable pub step_call : StepGiven → (engine out : List ℕ) → Call
step_call g engine out =
    call (result_code g.answer) g.at.sim.state.0 (with_engine engine g.at.sim) (result_out status_out g.answer out) g.at.c0 g.at.c1 g.at.c2

-- a refused fresh engine leaves the numbers as they were
abbrev pub new_on : Result Simulator Refusal → (state : ℕ) (engine out c0 c1 c2 : List ℕ) → Call
new_on (Ok v) q engine out c0 c1 c2 = call 0 v.state.0 (with_engine engine v) out c0 c1 c2
new_on (Err why) q engine out c0 c1 c2 = call (refusal_number why) q engine (refused_out why out) c0 c1 c2

unfoldable pub new_call : Made → (state : ℕ) (engine out : List ℕ) → Call
new_call g q engine out = new_on g.answer q engine out g.c0 g.c1 g.c2
