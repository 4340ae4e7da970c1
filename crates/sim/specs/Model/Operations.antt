-- The plain engine's operations: their refusals in document 01's order, their answers, and the lent cells afterwards. Definitions only.
use Rattle.symbol.specs.declared.State.{State}
use Rattle.outcome.specs.declared.Refusal.{Refusal}
use Rattle.outcome.specs.declared.Outcome.{Outcome}
use Rattle.outcome.specs.declared.Status.{Status}
use Rattle.std.specs.Prelude.{Bool, true, List, ℕ, ltb, leb, length, Err, Ok, Option, Result, ⊤}
use Rattle.notation.specs.Choice.{pick, both}
use Rattle.notation.specs.Limits.{steps_most}
use Rattle.symbol.specs.Kinds.{state_of}
use Rattle.outcome.specs.declared.Refusal.TheVariants as Why
use Rattle.machine.specs.declared.Machine.{Machine}
use Rattle.machine.specs.Model.Check.{demand, checked_on, table_check}
use Rattle.tape.specs.Model.Moves.{Held, no_tape, fresh_of}
use Rattle.tape.specs.Fits.{tape_fits}
pub use Rattle.run_checks.specs.Model.Sizes.{has1, has2, if_has, blank_tape}
unfoldable pub use Rattle.run_checks.specs.Model.Sizes.{sizes_fit, fuel_fits, words_right, fresh_sizes, fresh_check}
use Rattle.run_rules.specs.Model.Answers.{answered}
use Rattle.sim.specs.declared.Simulator.{Simulator}
use Rattle.sim.specs.Model.Engine.{Conf, conf, task, End, run_of, Once, once_of, status_of}

-- ---- tapes that the machine has, and those that it lacks

-- the fields of a tape that the machine lacks are neither read nor changed: they are 0 while the engine runs, and the caller's own afterwards
unfoldable pub bare_sim : (tapes : ℕ) → Simulator → Simulator
bare_sim t v = record {
  state = v.state;
  steps = v.steps;
  t0 = v.t0;
  t1 = pick (ltb 1 t) v.t1 no_tape;
  t2 = pick (ltb 2 t) v.t2 no_tape;
}

abbrev pub bare_of : Machine → Conf → Conf
bare_of m σ = conf (bare_sim m.tapes σ.sim) σ.c0 σ.c1 σ.c2

unfoldable pub hand_back : (tapes : ℕ) → Simulator → Simulator → Simulator
hand_back t v u = record {
  state = u.state;
  steps = u.steps;
  t0 = u.t0;
  t1 = pick (ltb 1 t) u.t1 v.t1;
  t2 = pick (ltb 2 t) u.t2 v.t2;
}

abbrev pub back_of : Machine → Conf → Conf → Conf
back_of m σ τ = conf (hand_back m.tapes σ.sim τ.sim) τ.c0 τ.c1 τ.c2

-- ---- refusals 11 and 12

-- "Fits: state below n, steps to 2^62, symbols below k. Plain, each tape: .."
unfoldable pub sim_fits : Machine → Simulator → (c0 c1 c2 : List ℕ) → Bool
sim_fits m v c0 c1 c2 =
    both (ltb v.state.0 m.states)
    (both (leb v.steps steps_most)
    (both (tape_fits m.symbols v.t0 c0)
    (both (if_has (has1 m) (tape_fits m.symbols v.t1 c1)) (if_has (has2 m) (tape_fits m.symbols v.t2 c2)))))

-- "11 for the upper sizes; 12 an engine value that doesn't fit"
unfoldable pub value_check : Machine → Conf → Result ⊤ Refusal
value_check m σ =
    demand (sizes_fit m (length σ.c0) (length σ.c1) (length σ.c2)) Why.BufferSize
    (demand (sim_fits m σ.sim σ.c0 σ.c1 σ.c2) Why.Misfit (Ok tt))

-- the table check, then refusals 11 and 12
unfoldable pub engine_check : Machine → List ℕ → Conf → Result ⊤ Refusal
engine_check m s σ = checked_on (table_check m s) (value_check m σ)

-- ---- the run

-- refusals 11, 12, 13
unfoldable pub fuel_check : Machine → ℕ → Conf → Result ⊤ Refusal
fuel_check m fuel σ = checked_on (value_check m σ) (demand (fuel_fits σ.sim.steps fuel) Why.StepLimit (Ok tt))

unfoldable pub run_check : Machine → List ℕ → ℕ → Conf → Result ⊤ Refusal
run_check m s fuel σ = checked_on (table_check m s) (fuel_check m fuel σ)

unfoldable pub fast_check : Machine → (s words : List ℕ) → ℕ → Conf → Result ⊤ Refusal
fast_check m s words fuel σ =
    checked_on (table_check m s)
    (demand (words_right m s words) Why.PackedWords (fuel_check m fuel σ))

-- an answer, with the engine and the buffers after the call
pub record Given : Type 0 where
  pub at : Conf
  pub answer : Result Outcome Refusal

abbrev pub given : Conf → Result Outcome Refusal → Given
given σ a = record { at = σ; answer = a }

abbrev pub ran_back : Machine → Conf → End → Given
ran_back m σ e = given (back_of m σ e.at) (Ok e.outcome)

abbrev pub run_on : Result ⊤ Refusal → Conf → Given → Given
run_on r σ done = answered given Err r σ done.at done.answer

-- the answer of a run's operation after its check: the refusal, or the run on the tapes that the machine has
abbrev pub answer_of : Result ⊤ Refusal → Machine → List ℕ → (proves : Bool) → Option State → (fuel : ℕ) → Conf → Given
answer_of checked m s p rule fuel σ = run_on checked σ (ran_back m σ (run_of (task m s p rule) fuel (bare_of m σ)))

unfoldable pub run_answer : Machine → List ℕ → Option State → ℕ → Conf → Given
run_answer m s rule fuel σ = answer_of (run_check m s fuel σ) m s true rule fuel σ

-- the fast run "answers as `run` does"
unfoldable pub fast_answer : Machine → (s words : List ℕ) → Option State → ℕ → Conf → Given
fast_answer m s words rule fuel σ = answer_of (fast_check m s words fuel σ) m s true rule fuel σ

-- ---- one step, "a step counts as fuel 1": "running, halted or full"

pub record StepGiven : Type 0 where
  pub at : Conf
  pub answer : Result Status Refusal

abbrev pub step_given : Conf → Result Status Refusal → StepGiven
step_given σ a = record { at = σ; answer = a }

abbrev pub step_back : Machine → Conf → Once → StepGiven
step_back m σ o = step_given (back_of m σ o.at) (Ok o.status)

abbrev pub step_on : Result ⊤ Refusal → Conf → StepGiven → StepGiven
step_on r σ done = answered step_given Err r σ done.at done.answer

unfoldable pub step_answer : Machine → List ℕ → Conf → StepGiven
step_answer m s σ = step_on (run_check m s 1 σ) σ (step_back m σ (once_of m s (bare_of m σ)))

-- the answer of a step, from the answer of a run of one step
abbrev pub step_answer_of : Result Outcome Refusal → Result Status Refusal
step_answer_of (Ok o) = Ok (status_of o)
step_answer_of (Err why) = Err why

-- ---- a fresh engine: the table check, refusals 9 and 10 for the word, then 11

abbrev pub fresh_sim : Machine → Held → Held → Held → Simulator
fresh_sim m h0 h1 h2 = record { state = state_of m.start; steps = 0; t0 = h0.tape; t1 = h1.tape; t2 = h2.tape }

pub record Made : Type 0 where
  pub answer : Result Simulator Refusal
  pub c0 : List ℕ
  pub c1 : List ℕ
  pub c2 : List ℕ

abbrev pub made : Result Simulator Refusal → List ℕ → List ℕ → List ℕ → Made
made f c0 c1 c2 = record { answer = f; c0 = c0; c1 = c1; c2 = c2 }

abbrev pub made_with : Machine → Held → Held → Held → Made
made_with m h0 h1 h2 = made (Ok (fresh_sim m h0 h1 h2)) h0.cells h1.cells h2.cells

abbrev pub fresh_on : Result ⊤ Refusal → List ℕ → List ℕ → List ℕ → Made → Made
fresh_on (Err why) c0 c1 c2 done = made (Err why) c0 c1 c2
fresh_on (Ok tt) c0 c1 c2 done = done

unfoldable pub new_answer : Machine → (s w c0 c1 c2 : List ℕ) → Made
new_answer m s w c0 c1 c2 =
    fresh_on (fresh_check m s w (length c0) (length c1) (length c2)) c0 c1 c2
    (made_with m (fresh_of w c0) (blank_tape (has1 m) c1) (blank_tape (has2 m) c2))
