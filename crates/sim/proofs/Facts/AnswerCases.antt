-- The answer of an operation after its check, one fact for each return. Assumes nothing.
use Rattle.symbol.specs.declared.State.{State}
use Rattle.std.specs.Prelude.{◌≡◌, refl, Bool, true, false, List, ◌⊎◌, ℕ, zero, suc, get_or, Err, Ok, Option, Result, Some, ⊤}
use Rattle.std.proofs.Common.{sym, ap, ◌∙◌, inl, inr}
use Rattle.outcome.specs.declared.Outcome.{Outcome}
use Rattle.outcome.specs.declared.Refusal.{Refusal}
use Rattle.outcome.specs.declared.Status.{Status}
use Rattle.outcome.specs.declared.Status.TheVariants as Step
use Rattle.outcome.specs.Numbers.{outcome_number}
use Rattle.machine.specs.declared.Machine.{Machine}
use Rattle.sim.specs.declared.Simulator.{Simulator}
use Rattle.run_rules.proofs.Facts.AnswerCases.{stays_refused, gives_accepted}
use Rattle.sim.specs.Model.Engine.{Conf, conf, task, end, run_of, statuses, status_of}
use Rattle.sim.proofs.Facts.EngineCases.{once-run}
use Rattle.sim.specs.Model.Operations.{bare_sim, hand_back, run_check, fast_check, bare_of, Given, given, answer_of, run_answer, fast_answer, StepGiven, step_given, step_back, step_answer, step_answer_of}
use Rattle.sim.specs.Model.Bursts.{Cleared}
use Rattle.sim.proofs.Facts.OperationCases.{fast_runs}

-- ---- the returns

module _ (m : Machine) (s : List ℕ) (p : Bool) (rule : Option State) (fuel : ℕ) (v : Simulator) (c0 c1 c2 : List ℕ) (r : Result ⊤ Refusal) where
  abbrev at : Conf
  at = conf v c0 c1 c2

  pub ran_refused : (why : Refusal) → r ≡ Err why → given at (Err why) ≡ answer_of r m s p rule fuel at
  ran_refused why e = stays_refused given Err r at _ _ why e

  pub ran_done : (b u w : Simulator) (d0 d1 d2 : List ℕ) (o : Outcome) → r ≡ Ok tt → b ≡ bare_sim m.tapes v
      → end (conf u d0 d1 d2) o ≡ run_of (task m s p rule) fuel (conf b c0 c1 c2) → w ≡ hand_back m.tapes v u
      → given (conf w d0 d1 d2) (Ok o) ≡ answer_of r m s p rule fuel at
  ran_done b u w d0 d1 d2 o a q e h = rw (h, ← q, ← e) (gives_accepted given Err r at _ _ a)

-- ---- the operations

module _ (m : Machine) (s : List ℕ) (fuel : ℕ) (σ : Conf) (r : Result ⊤ Refusal) where
  pub run_cleared : r ≡ run_check m s fuel σ → Cleared r m s fuel σ
  run_cleared e = record { runs = λ a. sym e ∙ a }

  pub fast_cleared : (words : List ℕ) → r ≡ fast_check m s words fuel σ → Cleared r m s fuel σ
  fast_cleared words e = record { runs = λ a. sym (fast_runs m s words fuel σ r e a) }

  module _ (g : Given) (rule : Option State) (is : g ≡ answer_of r m s true rule fuel σ) where
    pub run_answers : r ≡ run_check m s fuel σ → g ≡ run_answer m s rule fuel σ
    unfolding run_answer
    run_answers e = rw (← e) is

    pub fast_answers : (words : List ℕ) → r ≡ fast_check m s words fuel σ → g ≡ fast_answer m s words rule fuel σ
    unfolding fast_answer
    fast_answers words e = rw (← e) is

-- ---- one step, as a run that stops after it

as_step : Given → StepGiven
as_step g = step_given g.at (step_answer_of g.answer)

step_is : (m : Machine) (s : List ℕ) (σ : Conf) (r : Result ⊤ Refusal) → r ≡ run_check m s 1 σ
    → as_step (answer_of r m s false (Some σ.sim.state) 1 σ) ≡ step_answer m s σ
unfolding step_answer bare_sim as_step
step_is m s σ (Err why) e = rw (← e) refl
step_is m s σ (Ok tt) e = rw (← e) (ap (step_back m σ) (once-run m s (bare_of m σ) _ refl))

pub step_answers : (m : Machine) (s : List ℕ) (v w : Simulator) (c0 c1 c2 d0 d1 d2 : List ℕ) (r : Result ⊤ Refusal) (a : Result Outcome Refusal) (b : Result Status Refusal) → r ≡ run_check m s 1 (conf v c0 c1 c2)
    → given (conf w d0 d1 d2) a ≡ answer_of r m s false (Some v.state) 1 (conf v c0 c1 c2) → b ≡ step_answer_of a
    → step_given (conf w d0 d1 d2) b ≡ step_answer m s (conf v c0 c1 c2)
unfolding as_step
step_answers m s v w c0 c1 c2 d0 d1 d2 r a b e is q = rw q (ap as_step is ∙ step_is m s (conf v c0 c1 c2) r e)

pub answer_refused : (a : Result Outcome Refusal) (why : Refusal) → a ≡ Err why → Err why ≡ step_answer_of a
answer_refused a why e = rw e

pub answer_done : (a : Result Outcome Refusal) (o : Outcome) (x : Status) → x ≡ status_of o → a ≡ Ok o → Ok x ≡ step_answer_of a
answer_done a o x q e = rw (e, q)

-- ---- the status of a step, by the number of the outcome

status_at : (o : Outcome) (n : ℕ) → n ≡ outcome_number o → (x : Status) → x ≡ get_or statuses n Step.Halted → x ≡ status_of o
status_at o n e x q = q ∙ ap (λ (k : ℕ). get_or statuses k Step.Halted) e

pub status_made : (o : Outcome) (n : ℕ) → n ≡ outcome_number o → (n ≡ 1) ⊎ (n ≡ 3) → Step.Running ≡ status_of o
status_made o n e (inl p) = status_at o n e Step.Running (sym (ap (λ (k : ℕ). get_or statuses k Step.Halted) p))
status_made o n e (inr p) = status_at o n e Step.Running (sym (ap (λ (k : ℕ). get_or statuses k Step.Halted) p))

others : (n : ℕ) → ¬ (n ≡ 4) → ¬ ((n ≡ 1) ⊎ (n ≡ 3)) → Step.Halted ≡ get_or statuses n Step.Halted
others zero f g = refl
others (suc zero) f g = absurd (g (inl refl))
others (suc (suc zero)) f g = refl
others (suc (suc (suc zero))) f g = absurd (g (inr refl))
others (suc (suc (suc (suc zero)))) f g = absurd (f refl)
others (suc (suc (suc (suc (suc n))))) f g = refl

pub status_halted : (o : Outcome) (n : ℕ) → n ≡ outcome_number o → ¬ (n ≡ 4) → ¬ ((n ≡ 1) ⊎ (n ≡ 3)) → Step.Halted ≡ status_of o
status_halted o n e f g = status_at o n e Step.Halted (others n f g)
