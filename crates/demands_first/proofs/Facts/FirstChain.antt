-- Each operation of the run-length engine refuses by its list of tests, and a refusal changes nothing. Assumes nothing.
use Rattle.symbol.specs.declared.State.{State}
use Rattle.std.specs.Prelude.{◌≡◌, ◌↔◌, Bool, ℕ, suc, ◌-◌, ◌≤◌, ◌<◌, leb, ℤ, length, get_or, Err, Ok, Option, Result, ⊤}
use Rattle.std.proofs.Math.Path.{refl, subst⁻¹}
use Rattle.std.proofs.Math.Bool.{true, false}
use mathlib.Core.List.{List, [], ◌∷◌}
use Rattle.std.proofs.Common.{arith, leb-true, le-leb}
use Rattle.notation.specs.Choice.{pick, both}
use Rattle.notation.proofs.Facts.Tests.{both_split, both_true}
use Rattle.symbol.specs.Kinds.{symbol_of}
use Rattle.symbol.specs.Model.{raised_of}
use Rattle.outcome.specs.declared.Refusal.{Refusal}
use Rattle.outcome.specs.declared.Refusal.TheVariants as Why
use Rattle.machine.specs.declared.Machine.{Machine}
use Rattle.machine.specs.Model.Check.{checked_on, demand}
use Rattle.run_rules.specs.Model.Answers.{asked_on}
use Rattle.table_machine.specs.TableMachine.{start}
use Rattle.sim.specs.Model.Engine.{task}
use Rattle.rle_stack.specs.Model.{Side, side}
use Rattle.rle_records.specs.declared.Run.{Run}
use Rattle.rle_records.specs.Model.{room_for}
use Rattle.rle.specs.Model.Engine.{Conf, left_of, right_of, run_of}
use Rattle.rle.specs.Fits.{engine_check}
use Rattle.rle.specs.Model.Operations.{fresh_sizes, runs_of, Given, given, run_on, run_answer, laid_of, Made, made, made_with, fresh_on, new_answer}
use Rattle.rle.specs.Model.Questions.{raised_cell, window_from, span_of, count_of, get_answer, extent_answer, count_answer, window_into}
use Rattle.rle.specs.Model.Records.{listed_on, side_answer, side_into, left_answer, left_into, right_answer, right_into}
use Rattle.rle_refines.specs.Meaning.{Stack, empty}
use Rattle.rle_refines.specs.Full.{height, Stacked}
use Rattle.rle_refines.proofs.Facts.WordStack.{word_stack, word_stacked, word_height}
use Rattle.demands_first.specs.FirstClaims.{or, first_of, numbers_of, TurnsAway, refusal_of}
use Rattle.demands_first.specs.FirstTests.{chain_new_tests, chain_ask_tests, chain_list_tests, chain_run_tests}
use Rattle.demands_first.proofs.Facts.First.{turns, on_first, chain_new_first, chain_ask_first, chain_run_first}

pub chain_new_turns : (m : Machine) (s w ls ll rs rl : List ℕ)
    → TurnsAway (1 ∷ 2 ∷ 3 ∷ 4 ∷ 5 ∷ 6 ∷ 8 ∷ 9 ∷ 10 ∷ 11 ∷ []) (chain_new_tests m s w ls ll rs rl) (λ (x : Made). refusal_of x.answer) (λ why. made (Err why) rs rl)
    (new_answer m s w ls ll rs rl)
unfolding numbers_of new_answer
chain_new_turns m s w ls ll rs rl = turns _ (chain_new_tests m s w ls ll rs rl) (λ (x : Made). refusal_of x.answer) (λ why. made (Err why) rs rl)
    (λ c. fresh_on c rs rl (made_with m w (laid_of w (length w - 1) (side rs rl 0)))) _ refl (chain_new_first m s w ls ll rs rl) refl (λ why. refl) (λ why. refl)

-- ---- the sizes of a fresh engine

pub chain_new_stack : (m : Machine) (w : List ℕ) → ((i : ℕ) → i < length w → get_or w i 0 < m.symbols)
    → (right : Stack) × Stacked m.symbols (start m.start w).tape0 empty right
chain_new_stack m w b = (word_stack w, word_stacked m.symbols w (λ i h. b (suc i) h))

pub chain_new_sizes : (m : Machine) (w : List ℕ) (left right : Stack) → Stacked m.symbols (start m.start w).tape0 left right
    → (lefts rights : ℕ) → (fresh_sizes w lefts rights ≡ true) ↔ ((lefts ≤ 1048576) × (rights ≤ 1048576) × (height right ≤ rights))
unfolding fresh_sizes
chain_new_sizes m w left right st l r = (says, holds)
  where
    many : height right ≡ runs_of w (length w - 1) 0 0
    many = word_height m.symbols w left right st

    says : both (leb l 1048576) (both (leb r 1048576) (leb (runs_of w (length w - 1) 0 0) r)) ≡ true → (l ≤ 1048576) × (r ≤ 1048576) × (height right ≤ r)
    says h =
        let p = both_split h in
        let q = both_split p.1 in
        (leb-true _ _ p.0, leb-true _ _ q.0, omega (arith, many, leb-true (runs_of w (length w - 1) 0 0) r q.1))

    holds : (l ≤ 1048576) × (r ≤ 1048576) × (height right ≤ r) → both (leb l 1048576) (both (leb r 1048576) (leb (runs_of w (length w - 1) 0 0) r)) ≡ true
    holds h = both_true (le-leb _ _ h.0) (both_true (le-leb _ _ h.1) (le-leb (runs_of w (length w - 1) 0 0) r (omega (arith, many, h.2))))

pub chain_run_turns : (m : Machine) (s : List ℕ) (rule : Option State) (fuel : ℕ) (σ : Conf)
    → TurnsAway (1 ∷ 2 ∷ 3 ∷ 4 ∷ 5 ∷ 6 ∷ 8 ∷ 11 ∷ 12 ∷ 13 ∷ []) (chain_run_tests m s σ fuel) (λ (x : Given). refusal_of x.answer) (λ why. given σ (Err why))
    (run_answer m s rule fuel σ)
unfolding numbers_of run_answer
chain_run_turns m s rule fuel σ = turns _ (chain_run_tests m s σ fuel) (λ (x : Given). refusal_of x.answer) (λ why. given σ (Err why))
    (λ c. run_on c σ (run_of (task m s true rule) fuel σ)) _ refl (chain_run_first m s σ fuel) refl (λ why. refl) (λ why. refl)

module _ (m : Machine) (s : List ℕ) where
  -- any question whose answer depends on its check
  chain_asked : (σ : Conf) {X : Type 0} (refusal : X → Result ⊤ Refusal) (as_it_was : Refusal → X) (on : Result ⊤ Refusal → X)
      → refusal (on (Ok tt)) ≡ Ok tt → ((why : Refusal) → on (Err why) ≡ as_it_was why) → ((why : Refusal) → refusal (as_it_was why) ≡ Err why)
      → TurnsAway (1 ∷ 2 ∷ 3 ∷ 4 ∷ 5 ∷ 6 ∷ 8 ∷ 11 ∷ 12 ∷ []) (chain_ask_tests m s σ) refusal as_it_was (on (engine_check m s σ))
  unfolding numbers_of
  chain_asked σ refusal as_it_was on = turns _ (chain_ask_tests m s σ) refusal as_it_was on _ refl (chain_ask_first m s σ)

  pub chain_engine_turns : (σ : Conf) → TurnsAway (1 ∷ 2 ∷ 3 ∷ 4 ∷ 5 ∷ 6 ∷ 8 ∷ 11 ∷ 12 ∷ []) (chain_ask_tests m s σ) (λ (r : Result ⊤ Refusal). r) Err (engine_check m s σ)
  chain_engine_turns σ = chain_asked σ (λ (r : Result ⊤ Refusal). r) Err (λ c. c) refl (λ why. refl) (λ why. refl)

  pub chain_get_turns : (z : ℤ) (σ : Conf) → TurnsAway (1 ∷ 2 ∷ 3 ∷ 4 ∷ 5 ∷ 6 ∷ 8 ∷ 11 ∷ 12 ∷ []) (chain_ask_tests m s σ) refusal_of Err (get_answer m s z σ)
  unfolding get_answer
  chain_get_turns z σ = chain_asked σ refusal_of Err (λ c. asked_on c Err (Ok (symbol_of (raised_cell σ (raised_of z))))) refl (λ why. refl) (λ why. refl)

  pub chain_extent_turns : (σ : Conf) → TurnsAway (1 ∷ 2 ∷ 3 ∷ 4 ∷ 5 ∷ 6 ∷ 8 ∷ 11 ∷ 12 ∷ []) (chain_ask_tests m s σ) refusal_of Err (extent_answer m s σ)
  unfolding extent_answer
  chain_extent_turns σ = chain_asked σ refusal_of Err (λ c. asked_on c Err (Ok (span_of σ))) refl (λ why. refl) (λ why. refl)

  pub chain_count_turns : (σ : Conf) → TurnsAway (1 ∷ 2 ∷ 3 ∷ 4 ∷ 5 ∷ 6 ∷ 8 ∷ 11 ∷ 12 ∷ []) (chain_ask_tests m s σ) refusal_of Err (count_answer m s σ)
  unfolding count_answer
  chain_count_turns σ = chain_asked σ refusal_of Err (λ c. asked_on c Err (Ok (count_of σ))) refl (λ why. refl) (λ why. refl)

  pub chain_window_turns : (z : ℤ) (σ : Conf) (out : List ℕ)
      → TurnsAway (1 ∷ 2 ∷ 3 ∷ 4 ∷ 5 ∷ 6 ∷ 8 ∷ 11 ∷ 12 ∷ []) (chain_ask_tests m s σ) (λ (x : Result ⊤ Refusal × List ℕ). x.0) (λ why. (Err why, out))
      (engine_check m s σ, window_into m s z σ out)
  unfolding window_into
  chain_window_turns z σ out = chain_asked σ (λ (x : Result ⊤ Refusal × List ℕ). x.0) (λ why. (Err why, out))
      (λ c. (c, asked_on c (λ why. out) (window_from σ (raised_of z) out))) refl (λ why. refl) (λ why. refl)

  -- ---- left and right

  -- the records' answer where the check gives this
  abbrev listed : (count : ℕ) → Result ⊤ Refusal → Result ℕ Refusal
  listed count (Err why) = Err why
  listed count (Ok tt) = Ok count

  -- 18 comes last
  room_listed : (c : Result ⊤ Refusal) (b : Bool) (count : ℕ)
      → listed_on c (pick b (Ok count) (Err Why.OutputSize)) ≡ listed count (checked_on c (pick b (Ok tt) (Err Why.OutputSize)))
  unfolding pick
  room_listed (Err why) b count = refl
  room_listed (Ok tt) true count = refl
  room_listed (Ok tt) false count = refl

  side_listed : (σ : Conf) (count room : ℕ) → side_answer m s count room σ ≡ listed count (checked_on (engine_check m s σ) (demand (leb count room) Why.OutputSize (Ok tt)))
  unfolding side_answer room_for
  side_listed σ count room = room_listed (engine_check m s σ) (leb count room) count

  side_turns : (σ : Conf) (x : Side) (out : List Run)
      → TurnsAway (1 ∷ 2 ∷ 3 ∷ 4 ∷ 5 ∷ 6 ∷ 8 ∷ 11 ∷ 12 ∷ 18 ∷ []) (chain_list_tests m s σ x.count (length out)) (λ (y : Result ℕ Refusal × List Run). refusal_of y.0)
      (λ why. (Err why, out)) (side_answer m s x.count (length out) σ, side_into (side_answer m s x.count (length out) σ) x out)
  unfolding numbers_of first_of
  side_turns σ x out =
      subst⁻¹ (λ (y : Result ℕ Refusal). TurnsAway (1 ∷ 2 ∷ 3 ∷ 4 ∷ 5 ∷ 6 ∷ 8 ∷ 11 ∷ 12 ∷ 18 ∷ []) (chain_list_tests m s σ x.count (length out)) (λ (y : Result ℕ Refusal × List Run). refusal_of y.0)
      (λ why. (Err why, out)) (y, side_into y x out)) (side_listed σ x.count (length out))
      (turns _ (chain_list_tests m s σ x.count (length out)) (λ (y : Result ℕ Refusal × List Run). refusal_of y.0) (λ why. (Err why, out))
      (λ c. (listed x.count c, side_into (listed x.count c) x out)) _ refl
      (on_first _ _ (chain_ask_tests m s σ) (or (leb x.count (length out)) Why.OutputSize ∷ []) (chain_ask_first m s σ) refl) refl (λ why. refl) (λ why. refl))

  pub chain_left_turns : (σ : Conf) (out : List Run)
      → TurnsAway (1 ∷ 2 ∷ 3 ∷ 4 ∷ 5 ∷ 6 ∷ 8 ∷ 11 ∷ 12 ∷ 18 ∷ []) (chain_list_tests m s σ σ.sim.tape.left (length out)) (λ (y : Result ℕ Refusal × List Run). refusal_of y.0)
      (λ why. (Err why, out)) (left_answer m s (length out) σ, left_into m s σ out)
  chain_left_turns σ out = side_turns σ (left_of σ) out

  pub chain_right_turns : (σ : Conf) (out : List Run)
      → TurnsAway (1 ∷ 2 ∷ 3 ∷ 4 ∷ 5 ∷ 6 ∷ 8 ∷ 11 ∷ 12 ∷ 18 ∷ []) (chain_list_tests m s σ σ.sim.tape.right (length out)) (λ (y : Result ℕ Refusal × List Run). refusal_of y.0)
      (λ why. (Err why, out)) (right_answer m s (length out) σ, right_into m s σ out)
  chain_right_turns σ out = side_turns σ (right_of σ) out
