-- The effect of a C call of the plain engine follows from its operation and from the numbers stored. Assumes nothing.
use Rattle.outcome.specs.declared.Outcome.{Outcome}
use Rattle.outcome.specs.declared.Status.{Status}
use Rattle.std.specs.Prelude.{◌≡◌, List, ℕ, Err, Ok, Result}
use Rattle.std.proofs.Math.Path.{refl}
use Rattle.outcome.specs.declared.Refusal.{Refusal}
use Rattle.outcome.specs.Numbers.{refusal_number}
use Rattle.sim.specs.declared.Simulator.{Simulator}
use Rattle.sim.specs.Model.Engine.{conf}
use Rattle.sim.specs.Model.Operations.{Given, given, StepGiven, step_given, Made, made}
use Rattle.capi_engines.specs.Model.Engines.{with_engine}
use Rattle.capi_numbers.specs.Model.Answers.{refused_out, result_code, result_out, status_out}
use Rattle.capi_sim.specs.Model.Calls.{call, HandedBack, ran_call, step_call, new_call}

module _ (v : Simulator) (d0 d1 d2 xs ys out o : List ℕ) (n : ℕ) where
  pub ran_called : (q : ℕ) (g : Given) (a : Result Outcome Refusal) → given (conf v d0 d1 d2) a ≡ g → HandedBack v a xs out n q ys o → call n q ys o d0 d1 d2 ≡ ran_call g xs out
  unfolding ran_call
  ran_called q g a e h = rw (h.code, h.state, h.engine, h.out, ← e) refl

  pub step_called : (g : StepGiven) (a : Result Status Refusal) → step_given (conf v d0 d1 d2) a ≡ g → ys ≡ with_engine xs v → n ≡ result_code a → o ≡ result_out status_out a out
      → call n v.state.0 ys o d0 d1 d2 ≡ step_call g xs out
  unfolding step_call
  step_called g a e stored p q = rw (stored, p, q, ← e) refl

module _ (d0 d1 d2 xs out : List ℕ) (k : ℕ) (g : Made) where
  pub new_called : (v : Simulator) (ys : List ℕ) → made (Ok v) d0 d1 d2 ≡ g → ys ≡ with_engine xs v → call 0 v.state.0 ys out d0 d1 d2 ≡ new_call g k xs out
  unfolding new_call
  new_called v ys e p = rw (p, ← e) refl

  pub new_turned : (why : Refusal) (o : List ℕ) (n : ℕ) → made (Err why) d0 d1 d2 ≡ g → n ≡ refusal_number why → o ≡ refused_out why out
      → call n k xs o d0 d1 d2 ≡ new_call g k xs out
  unfolding new_call
  new_turned why o n e p q = rw (p, q, ← e) refl
