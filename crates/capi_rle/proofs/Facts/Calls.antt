-- The effect of a C call of the run-length engine follows from its operation and from the numbers stored. Assumes nothing.
use Rattle.outcome.specs.declared.Outcome.{Outcome}
use Rattle.std.specs.Prelude.{◌≡◌, List, ℕ, Err, Ok, Result}
use Rattle.std.proofs.Math.Path.{refl}
use Rattle.outcome.specs.declared.Refusal.{Refusal}
use Rattle.outcome.specs.Numbers.{refusal_number}
use Rattle.rle.specs.declared.ChainSim.{ChainSim}
use Rattle.rle.specs.Model.Engine.{conf}
use Rattle.rle.specs.Model.Operations.{Given, given, Made, made}
use Rattle.capi_numbers.specs.Model.Answers.{refused_out}
use Rattle.capi_engines.specs.Model.Engines.{with_chain}
use Rattle.capi_rle.specs.Model.Calls.{chain_call, HandedBack, chain_ran_call, chain_new_call}

pub chain_ran : (v : ChainSim) (ls ll rs rl xs ys out o : List ℕ) (n q c : ℕ) (g : Given) (a : Result Outcome Refusal) → given (conf v ls ll rs rl) a ≡ g
    → HandedBack v a xs out n q c ys o → chain_call n q c ys o ls ll rs rl ≡ chain_ran_call g xs out
unfolding chain_ran_call
chain_ran v ls ll rs rl xs ys out o n q c g a e h = rw (h.code, h.state, h.cur, h.engine, h.out, ← e) refl

module _ (ls ll rs rl xs out : List ℕ) (k c : ℕ) (g : Made) where
  pub chain_made : (v : ChainSim) (ys : List ℕ) → made (Ok v) rs rl ≡ g → ys ≡ with_chain xs v
      → chain_call 0 v.state.0 v.tape.cur ys out ls ll rs rl ≡ chain_new_call g k c xs out ls ll
  unfolding chain_new_call
  chain_made v ys e p = rw (p, ← e) refl

  pub chain_turned : (why : Refusal) (o : List ℕ) (n : ℕ) → made (Err why) rs rl ≡ g → n ≡ refusal_number why → o ≡ refused_out why out
      → chain_call n k c xs o ls ll rs rl ≡ chain_new_call g k c xs out ls ll
  unfolding chain_new_call
  chain_turned why o n e p q = rw (p, q, ← e) refl
