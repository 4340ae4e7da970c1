-- THE FIRST DEMAND for the plain engine. Each part is about the definitions that the contracts of its operations cite.
use Rattle.symbol.specs.declared.State.{State}
use Rattle.outcome.specs.declared.Refusal.{Refusal}
use Rattle.std.specs.Prelude.{◌≡◌, ◌↔◌, true, List, [], ◌∷◌, ℕ, ◌+◌, ◌<◌, ℤ, Err, Ok, Option, Result, ⊤}
use Rattle.symbol.specs.declared.Dir.{Dir}
use Rattle.outcome.specs.declared.Outcome.TheVariants.{OutOfFuel, Full}
use Rattle.outcome.specs.declared.Status.TheVariants as Step
use Rattle.machine.specs.declared.Machine.{Machine}
use Rattle.table_laws.specs.WellFormed.{Bytes, WellFormed}
use Rattle.table_machine.specs.Tables.{table_of}
use Rattle.sim.specs.Model.Engine.{Conf}
use Rattle.sim.specs.Model.Operations.{bare_of, sim_fits, words_right, engine_check, run_check, Given, given, run_answer, fast_answer, StepGiven, step_given, step_answer, Made, made, new_answer}
use Rattle.sim.specs.Model.Questions.{question_check, get_answer, extent_answer, count_answer, window_into, find_answer}
use Rattle.sim_refines.specs.Meaning.{config_of, EngineFits}
use Rattle.demands_second.specs.Space.{GoesOn}
use Rattle.demands_second.specs.Accepts.{PackedOf}
use Rattle.demands_first.specs.FirstClaims.{TurnsAway, refusal_of}
use Rattle.demands_first.specs.FirstTests.{plain_new_tests, plain_run_tests, plain_fast_tests, plain_ask_tests}
use Rattle.demands_first.specs.FirstTimeline.{plain_engine_tests}
use Rattle.demands_first.specs.FirstSpace.{EndsFull, PlainFull}

pub record PlainOperations : Type 0 where
  -- ---- "A refusal carries its number from document 01 and changes no state, tape, run stack or store."

  -- a fresh engine: the answer, with the three cells buffers
  pub new : (m : Machine) (s w c0 c1 c2 : List ℕ)
      → TurnsAway (1 ∷ 2 ∷ 3 ∷ 4 ∷ 5 ∷ 6 ∷ 9 ∷ 10 ∷ 11 ∷ []) (plain_new_tests m s w c0 c1 c2) (λ (x : Made). refusal_of x.answer) (λ why. made (Err why) c0 c1 c2)
      (new_answer m s w c0 c1 c2)
  -- the check of an engine value: it writes nothing
  pub engine_check_holds : (m : Machine) (s : List ℕ) (σ : Conf)
      → TurnsAway (1 ∷ 2 ∷ 3 ∷ 4 ∷ 5 ∷ 6 ∷ 11 ∷ 12 ∷ []) (plain_engine_tests m s σ) (λ (r : Result ⊤ Refusal). r) Err (engine_check m s σ)
  -- a step, a run, the fast run: the answer, with the engine handed back and the three buffers
  pub step : (m : Machine) (s : List ℕ) (σ : Conf)
      → TurnsAway (1 ∷ 2 ∷ 3 ∷ 4 ∷ 5 ∷ 6 ∷ 11 ∷ 12 ∷ 13 ∷ []) (plain_run_tests m s σ 1) (λ (x : StepGiven). refusal_of x.answer) (λ why. step_given σ (Err why))
      (step_answer m s σ)
  pub run : (m : Machine) (s : List ℕ) (rule : Option State) (fuel : ℕ) (σ : Conf)
      → TurnsAway (1 ∷ 2 ∷ 3 ∷ 4 ∷ 5 ∷ 6 ∷ 11 ∷ 12 ∷ 13 ∷ []) (plain_run_tests m s σ fuel) (λ (x : Given). refusal_of x.answer) (λ why. given σ (Err why))
      (run_answer m s rule fuel σ)
  pub fast : (m : Machine) (s words : List ℕ) (rule : Option State) (fuel : ℕ) (σ : Conf)
      → TurnsAway (1 ∷ 2 ∷ 3 ∷ 4 ∷ 5 ∷ 6 ∷ 7 ∷ 11 ∷ 12 ∷ 13 ∷ []) (plain_fast_tests m s σ words fuel) (λ (x : Given). refusal_of x.answer) (λ why. given σ (Err why))
      (fast_answer m s words rule fuel σ)
  -- the tape questions; `window` with its lent slice
  pub get : (m : Machine) (s : List ℕ) (i : ℕ) (z : ℤ) (σ : Conf)
      → TurnsAway (1 ∷ 2 ∷ 3 ∷ 4 ∷ 5 ∷ 6 ∷ 11 ∷ 12 ∷ []) (plain_ask_tests m s σ i) refusal_of Err (get_answer m s i z σ)
  pub non_blank : (m : Machine) (s : List ℕ) (i : ℕ) (σ : Conf)
      → TurnsAway (1 ∷ 2 ∷ 3 ∷ 4 ∷ 5 ∷ 6 ∷ 11 ∷ 12 ∷ []) (plain_ask_tests m s σ i) refusal_of Err (extent_answer m s i σ)
  pub count_non_blank : (m : Machine) (s : List ℕ) (i : ℕ) (σ : Conf)
      → TurnsAway (1 ∷ 2 ∷ 3 ∷ 4 ∷ 5 ∷ 6 ∷ 11 ∷ 12 ∷ []) (plain_ask_tests m s σ i) refusal_of Err (count_answer m s i σ)
  pub window : (m : Machine) (s : List ℕ) (i : ℕ) (z : ℤ) (σ : Conf) (out : List ℕ)
      → TurnsAway (1 ∷ 2 ∷ 3 ∷ 4 ∷ 5 ∷ 6 ∷ 11 ∷ 12 ∷ []) (plain_ask_tests m s σ i) (λ (x : Result ⊤ Refusal × List ℕ). x.0) (λ why. (Err why, out))
      (question_check m s i σ, window_into m s i z σ out)
  pub find_non_blank : (m : Machine) (s : List ℕ) (i : ℕ) (z : ℤ) (d : Dir) (σ : Conf)
      → TurnsAway (1 ∷ 2 ∷ 3 ∷ 4 ∷ 5 ∷ 6 ∷ 11 ∷ 12 ∷ []) (plain_ask_tests m s σ i) refusal_of Err (find_answer m s i z d σ)
  -- ---- "7 packed words not the table's (fast run; more than one tape also counts)": the test words_right, of words for a table that the table check accepts

  pub packed_words : (m : Machine) (s words : List ℕ) → WellFormed m s → (words_right m s words ≡ true) ↔ PackedOf m s words
  -- ---- "12 an engine value that doesn't fit": the test plain_fits

  -- "Fits: state below n, steps to 2^62, symbols below k. Plain, each tape: length from 32 to the buffer's, head and origin below it, lowest ≤ head ≤ highest, all
  -- inside." (EngineFits, for the tapes that the machine has)
  pub fits : (m : Machine) (σ : Conf) → (sim_fits m σ.sim σ.c0 σ.c1 σ.c2 ≡ true) ↔ EngineFits m (bare_of m σ)
  -- ---- "Lack of space stops a run before the step that needs it, earlier steps kept."

  -- a run that answers Full n has made the steps of the table machine up to step n, and the next step is full (EndsFull); the same for the fast run
  pub full : (m : Machine) (s : List ℕ) → Bytes s → (rule : Option State) (fuel : ℕ) (σ τ : Conf) (n : ℕ) → run_answer m s rule fuel σ ≡ given τ (Ok (Full n))
      → EndsFull m (table_of m s) (config_of m σ) (config_of m τ) fuel n (PlainFull m s τ)
  pub fast_full : (m : Machine) (s words : List ℕ) → Bytes s → (rule : Option State) (fuel : ℕ) (σ τ : Conf) (n : ℕ) → fast_answer m s words rule fuel σ ≡ given τ (Ok (Full n))
      → EndsFull m (table_of m s) (config_of m σ) (config_of m τ) fuel n (PlainFull m s τ)
  -- with fuel, an entry and no proved loop, the run answers full, with the engine and every cell as they were, exactly where the next step is full
  pub full_exact : (m : Machine) (s : List ℕ) → Bytes s → (rule : Option State) (fuel : ℕ) (σ : Conf) → run_check m s fuel σ ≡ Ok tt → 0 < fuel
      → GoesOn m (table_of m s) (config_of m σ) → (run_answer m s rule fuel σ ≡ given σ (Ok (Full σ.sim.steps))) ↔ PlainFull m s σ
  -- no run goes past a full step: where a run makes a steps and the next step is full, a run with more fuel ends there and keeps the a steps
  pub full_onward : (m : Machine) (s : List ℕ) → Bytes s → (rule : Option State) (a b : ℕ) (σ τ : Conf) (n : ℕ) → run_answer m s rule a σ ≡ given τ (Ok (OutOfFuel n))
      → run_check m s (a + b) σ ≡ Ok tt → 0 < b → PlainFull m s τ → run_answer m s rule (a + b) σ ≡ given τ (Ok (Full n))
  -- a full step changes nothing
  pub step_full : (m : Machine) (s : List ℕ) → Bytes s → (σ τ : Conf) → step_answer m s σ ≡ step_given τ (Ok Step.Full) → (τ ≡ σ) × PlainFull m s σ
  -- "full exactly when that passes the buffer, on any tape": an accepted step answers full exactly where it is full; it does not test for a proved loop
  pub step_full_exact : (m : Machine) (s : List ℕ) → Bytes s → (σ : Conf) → run_check m s 1 σ ≡ Ok tt
      → (step_answer m s σ ≡ step_given σ (Ok Step.Full)) ↔ PlainFull m s σ
