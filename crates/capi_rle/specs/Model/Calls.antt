-- The effect of each C call of the run-length engine: its result, the engine's numbers, the answer's values, and the run places. Definitions only.
use Rattle.outcome.specs.declared.Refusal.{Refusal}
use Rattle.outcome.specs.declared.Outcome.{Outcome}
use Rattle.std.specs.Prelude.{◌≡◌, List, ℕ, Err, Ok, Result}
use Rattle.outcome.specs.Numbers.{refusal_number}
use Rattle.rle.specs.declared.ChainSim.{ChainSim}
use Rattle.rle.specs.Model.Operations.{Given, Made}
use Rattle.capi_engines.specs.Model.Engines.{with_chain}
use Rattle.capi_numbers.specs.Model.Answers.{refused_out, result_code, result_out, outcome_out}

-- ---- calls that hand back an engine

pub record ChainCall : Type 0 where
  pub code : ℕ
  pub state : ℕ
  pub cur : ℕ
  pub engine : List ℕ
  pub out : List ℕ
  pub ls : List ℕ
  pub ll : List ℕ
  pub rs : List ℕ
  pub rl : List ℕ

abbrev pub chain_call : (code state cur : ℕ) (engine out ls ll rs rl : List ℕ) → ChainCall
chain_call code state cur engine out ls ll rs rl = record {
  code = code;
  state = state;
  cur = cur;
  engine = engine;
  out = out;
  ls = ls;
  ll = ll;
  rs = rs;
  rl = rl;
}

-- the numbers that an engine v and an answer a leave: the result n, the state q, the symbol under the head c, the engine's numbers ys for xs, and the values ts
-- for os in `out`
pub record HandedBack (v : ChainSim) (a : Result Outcome Refusal) (xs os : List ℕ) (n q c : ℕ) (ys ts : List ℕ) : Type 0 where
  pub code : n ≡ result_code a
  pub state : q ≡ v.state.0
  pub cur : c ≡ v.tape.cur
  pub engine : ys ≡ with_chain xs v
  pub out : ts ≡ result_out outcome_out a os

unfoldable pub chain_ran_call : Given → (engine out : List ℕ) → ChainCall
chain_ran_call g engine out =
    chain_call (result_code g.answer) g.at.sim.state.0 g.at.sim.tape.cur (with_chain engine g.at.sim)
    (result_out outcome_out g.answer out) g.at.ls g.at.ll g.at.rs g.at.rl

-- a refused fresh engine leaves the numbers as they were
abbrev pub chain_new_on : Result ChainSim Refusal → (state cur : ℕ) (engine out ls ll rs rl : List ℕ) → ChainCall
chain_new_on (Ok v) q c engine out ls ll rs rl = chain_call 0 v.state.0 v.tape.cur (with_chain engine v) out ls ll rs rl
chain_new_on (Err why) q c engine out ls ll rs rl = chain_call (refusal_number why) q c engine (refused_out why out) ls ll rs rl

unfoldable pub chain_new_call : Made → (state cur : ℕ) (engine out ls ll : List ℕ) → ChainCall
chain_new_call g q c engine out ls ll = chain_new_on g.answer q c engine out ls ll g.rs g.rl
