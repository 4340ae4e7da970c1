-- THE FIRST DEMAND for the run-length engine. Each part is about the definitions that the contracts of its operations cite.
use Rattle.symbol.specs.declared.State.{State}
use Rattle.outcome.specs.declared.Refusal.{Refusal}
use Rattle.std.specs.Prelude.{◌≡◌, ◌↔◌, true, false, List, [], ◌∷◌, ℕ, ◌+◌, ◌≤◌, ◌<◌, ◌^◌, ℤ, length, get_or, Err, Ok, Option, Result, ⊤}
use Rattle.outcome.specs.declared.Outcome.TheVariants.{OutOfFuel, Full}
use Rattle.machine.specs.declared.Machine.{Machine}
use Rattle.table_laws.specs.WellFormed.{Bytes}
use Rattle.table_machine.specs.TableMachine.{start}
use Rattle.table_machine.specs.Tables.{table_of}
use Rattle.sim.specs.Model.Engine.{matches}
use Rattle.rle_records.specs.declared.Run.{Run}
use Rattle.rle.specs.Model.Engine.{Conf}
use Rattle.rle.specs.Fits.{chain_fits, engine_check, run_check}
use Rattle.rle.specs.Model.Operations.{fresh_sizes, Given, given, run_answer, Made, made, new_answer}
use Rattle.rle.specs.Model.Questions.{get_answer, extent_answer, count_answer, window_into}
use Rattle.rle.specs.Model.Records.{left_answer, left_into, right_answer, right_into}
use Rattle.rle_refines.specs.Meaning.{Stack, empty, config_of, ChainFits, left_end, right_end, Near, Alike}
use Rattle.rle_refines.specs.Full.{height, Stacked}
use Rattle.demands_second.specs.Space.{GoesOn, ChainFull}
use Rattle.demands_first.specs.FirstClaims.{TurnsAway, refusal_of}
use Rattle.demands_first.specs.FirstTests.{chain_new_tests, chain_run_tests, chain_ask_tests, chain_list_tests}
use Rattle.demands_first.specs.FirstSpace.{EndsFull}

pub record ChainOperations : Type 0 where
  -- ---- "A refusal carries its number from document 01 and changes no state, tape, run stack or store."

  -- a fresh engine: the answer, with the right side's places; the left side's are lent only for reading
  pub new : (m : Machine) (s w ls ll rs rl : List ℕ)
      → TurnsAway (1 ∷ 2 ∷ 3 ∷ 4 ∷ 5 ∷ 6 ∷ 8 ∷ 9 ∷ 10 ∷ 11 ∷ []) (chain_new_tests m s w ls ll rs rl) (λ (x : Made). refusal_of x.answer) (λ why. made (Err why) rs rl)
      (new_answer m s w ls ll rs rl)
  -- the check of an engine value: it writes nothing
  pub engine_check_holds : (m : Machine) (s : List ℕ) (σ : Conf)
      → TurnsAway (1 ∷ 2 ∷ 3 ∷ 4 ∷ 5 ∷ 6 ∷ 8 ∷ 11 ∷ 12 ∷ []) (chain_ask_tests m s σ) (λ (r : Result ⊤ Refusal). r) Err (engine_check m s σ)
  -- a run: the answer, with the engine handed back and the places of both sides
  pub run : (m : Machine) (s : List ℕ) (rule : Option State) (fuel : ℕ) (σ : Conf)
      → TurnsAway (1 ∷ 2 ∷ 3 ∷ 4 ∷ 5 ∷ 6 ∷ 8 ∷ 11 ∷ 12 ∷ 13 ∷ []) (chain_run_tests m s σ fuel) (λ (x : Given). refusal_of x.answer) (λ why. given σ (Err why))
      (run_answer m s rule fuel σ)
  -- the tape questions; `window`, `left` and `right` with their lent slice
  pub get : (m : Machine) (s : List ℕ) (z : ℤ) (σ : Conf)
      → TurnsAway (1 ∷ 2 ∷ 3 ∷ 4 ∷ 5 ∷ 6 ∷ 8 ∷ 11 ∷ 12 ∷ []) (chain_ask_tests m s σ) refusal_of Err (get_answer m s z σ)
  pub non_blank : (m : Machine) (s : List ℕ) (σ : Conf)
      → TurnsAway (1 ∷ 2 ∷ 3 ∷ 4 ∷ 5 ∷ 6 ∷ 8 ∷ 11 ∷ 12 ∷ []) (chain_ask_tests m s σ) refusal_of Err (extent_answer m s σ)
  pub count_non_blank : (m : Machine) (s : List ℕ) (σ : Conf)
      → TurnsAway (1 ∷ 2 ∷ 3 ∷ 4 ∷ 5 ∷ 6 ∷ 8 ∷ 11 ∷ 12 ∷ []) (chain_ask_tests m s σ) refusal_of Err (count_answer m s σ)
  pub window : (m : Machine) (s : List ℕ) (z : ℤ) (σ : Conf) (out : List ℕ)
      → TurnsAway (1 ∷ 2 ∷ 3 ∷ 4 ∷ 5 ∷ 6 ∷ 8 ∷ 11 ∷ 12 ∷ []) (chain_ask_tests m s σ) (λ (x : Result ⊤ Refusal × List ℕ). x.0) (λ why. (Err why, out))
      (engine_check m s σ, window_into m s z σ out)
  pub left : (m : Machine) (s : List ℕ) (σ : Conf) (out : List Run)
      → TurnsAway (1 ∷ 2 ∷ 3 ∷ 4 ∷ 5 ∷ 6 ∷ 8 ∷ 11 ∷ 12 ∷ 18 ∷ []) (chain_list_tests m s σ σ.sim.tape.left (length out)) (λ (x : Result ℕ Refusal × List Run). refusal_of x.0)
      (λ why. (Err why, out)) (left_answer m s (length out) σ, left_into m s σ out)
  pub right : (m : Machine) (s : List ℕ) (σ : Conf) (out : List Run)
      → TurnsAway (1 ∷ 2 ∷ 3 ∷ 4 ∷ 5 ∷ 6 ∷ 8 ∷ 11 ∷ 12 ∷ 18 ∷ []) (chain_list_tests m s σ σ.sim.tape.right (length out)) (λ (x : Result ℕ Refusal × List Run). refusal_of x.0)
      (λ why. (Err why, out)) (right_answer m s (length out) σ, right_into m s σ out)
  -- ---- "11 .. fewer right run places than the word's right stack has runs, or a run side over 1,048,576": the test fresh_sizes

  -- a word with symbols below k gives two stacks of the table machine's start tape; by the stack rule there are no other two
  pub new_stack : (m : Machine) (w : List ℕ) → ((i : ℕ) → i < length w → get_or w i 0 < m.symbols)
      → (right : Stack) × Stacked m.symbols (start m.start w).tape0 empty right
  -- the test passes exactly where neither side has over 1,048,576 places and the right side has a place for each run of the right stack
  pub new_sizes : (m : Machine) (w : List ℕ) (left right : Stack) → Stacked m.symbols (start m.start w).tape0 left right
      → (lefts rights : ℕ) → (fresh_sizes w lefts rights ≡ true) ↔ ((lefts ≤ 1048576) × (rights ≤ 1048576) × (height right ≤ rights))
  -- ---- "12 an engine value that doesn't fit": the test chain_fits

  -- "Fits: state below n, steps to 2^62, symbols below k. .. Chain: the stack rule, each side's sum, and its furthest cell's distance from 0, at most steps + 2^20,
  -- lowest ≤ head ≤ highest, all within steps of 0, macro steps at most steps." (ChainFits)
  pub fits : (m : Machine) (σ : Conf) → (chain_fits m σ ≡ true) ↔ ChainFits m σ
  -- then the furthest cell of each side lies within steps + 2^20 of 0, on either side of 0
  pub near : (m : Machine) (σ : Conf) → ChainFits m σ → Near (σ.sim.steps + 2 ^ 20) (left_end σ) × Near (σ.sim.steps + 2 ^ 20) (right_end σ)
  -- ---- "Lack of space stops a run before the step that needs it, earlier steps kept."

  -- a run that answers Full n has made the steps of the table machine up to step n, and the next step is full (EndsFull)
  pub full : (m : Machine) (s : List ℕ) → Bytes s → (rule : Option State) (fuel : ℕ) (σ τ : Conf) (n : ℕ) → run_answer m s rule fuel σ ≡ given τ (Ok (Full n))
      → EndsFull m (table_of m s) (config_of σ) (config_of τ) fuel n (ChainFull m s τ)
  -- "Full exactly when the step's push needs a new run on a side whose live runs fill its lent places" (ChainFull): with fuel, an entry, no proved loop and no
  -- match of the stop rule, the run answers full, with the engine and every place as they were, exactly there
  pub full_exact : (m : Machine) (s : List ℕ) → Bytes s → (rule : Option State) (fuel : ℕ) (σ : Conf) → run_check m s fuel σ ≡ Ok tt → 0 < fuel
      → GoesOn m (table_of m s) (config_of σ) → matches rule σ.sim.state ≡ false
      → (run_answer m s rule fuel σ ≡ given σ (Ok (Full σ.sim.steps))) ↔ ChainFull m s σ
  -- no run goes past a full step: where a run makes a steps and the next step is full, a run with more fuel ends there and keeps the a steps. The two engines
  -- differ only in the macro steps and past the live runs (Alike)
  pub full_onward : (m : Machine) (s : List ℕ) → Bytes s → (rule : Option State) (a b : ℕ) (σ τ : Conf) (n : ℕ) → run_answer m s rule a σ ≡ given τ (Ok (OutOfFuel n))
      → run_check m s (a + b) σ ≡ Ok tt → 0 < b → matches rule τ.sim.state ≡ false → ChainFull m s τ
      → (ω : Conf) × (run_answer m s rule (a + b) σ ≡ given ω (Ok (Full n))) × Alike τ ω
