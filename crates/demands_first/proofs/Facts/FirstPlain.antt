-- Each operation on tables and words and of the plain engine refuses by its list of tests, and a refusal changes nothing. Assumes nothing.
use Rattle.std.proofs.Math.Path.{◌≡◌, refl}
use Rattle.std.specs.Prelude.{true, ℕ, ◌≤◌, ◌<◌, leb, ℤ, Err, Ok, Option, Result, ⊤}
use mathlib.Core.List.{List, [], ◌∷◌}
use Rattle.std.proofs.Common.{arith, ltb-true, ltb-false}
use Rattle.std.proofs.Math.ListN.{length, get_or}
use Rattle.notation.specs.Fill.{fill_from}
use Rattle.notation.proofs.Facts.Tests.{pick_cases}
use Rattle.notation.proofs.Facts.Scan.{Scanned, clean, failed, scanned}
use Rattle.symbol.specs.Kinds.{symbol_of}
use Rattle.symbol.specs.declared.Symbol.{Symbol}
use Rattle.symbol.specs.declared.State.{State}
use Rattle.symbol.specs.declared.Dir.{Dir}
use Rattle.outcome.specs.declared.Refusal.{Refusal}
use Rattle.outcome.specs.declared.Refusal.TheVariants as Why
use Rattle.machine.specs.declared.Machine.{Machine}
use Rattle.machine.specs.Layout.{stride_of, entry_count, entry_number, entry_at}
use Rattle.machine.specs.Model.Check.{answer_at, filled_on, table_check, looked_on, lookup_of}
use Rattle.machine.specs.Model.Packing.{word_at, pack_check, pack_into}
use Rattle.machine.specs.Model.Word.{symbol_in, symbols_check, word_check}
use Rattle.alphabet.specs.Model.{byte_at, encode_check, encode_into}
use Rattle.tape.specs.Model.Moves.{fresh_of}
use Rattle.tape.specs.Model.Questions.{cell_of, non_blank_of, count_of, window_of, find_of}
use Rattle.sim.specs.Model.Engine as Plain
use Rattle.sim.specs.Model.Operations as Plains
use Rattle.sim.specs.Model.Questions as Asks
use Rattle.demands_first.specs.FirstClaims.{numbers_of, TurnsAway, refusal_of}
use Rattle.demands_first.specs.FirstTests.{table_tests, pack_tests, word_tests, encode_tests, plain_new_tests, plain_run_tests, plain_fast_tests, plain_ask_tests}
use Rattle.demands_first.specs.FirstTimeline.{plain_engine_tests}
use Rattle.demands_first.proofs.Facts.FirstTimeline.{plain_engine_first}
use Rattle.demands_first.proofs.Facts.First.{turns, table_first, pack_first, word_first, encode_first, plain_new_first, plain_run_first, plain_fast_first, plain_ask_first}

-- ---- tables and words

module _ (m : Machine) (s : List ℕ) where
  pub table_turns : TurnsAway (1 ∷ 2 ∷ 3 ∷ 4 ∷ 5 ∷ 6 ∷ []) (table_tests m s) (λ (r : Result ⊤ Refusal). r) Err (table_check m s)
  unfolding numbers_of
  table_turns = turns _ (table_tests m s) _ Err (λ (c : Result ⊤ Refusal). c) _ refl (table_first m s) refl (λ why. refl) (λ why. refl)

  pub lookup_turns : (q : State) (a0 a1 a2 : Symbol) → TurnsAway (1 ∷ 2 ∷ 3 ∷ 4 ∷ 5 ∷ 6 ∷ []) (table_tests m s) refusal_of Err (lookup_of m s q a0 a1 a2)
  unfolding numbers_of lookup_of
  lookup_turns q a0 a1 a2 = turns _ (table_tests m s) refusal_of Err
      (λ c. looked_on c (Ok (entry_at s (entry_number m.symbols (stride_of m) q.0 a0.0 a1.0 a2.0))))
      _ refl (table_first m s) refl (λ why. refl) (λ why. refl)

  pub pack_turns : (out : List ℕ)
      → TurnsAway (1 ∷ 2 ∷ 3 ∷ 4 ∷ 5 ∷ 6 ∷ 7 ∷ 18 ∷ []) (pack_tests m s (length out)) (λ (x : Result ⊤ Refusal × List ℕ). x.0) (λ why. (Err why, out))
      (pack_check m s (length out), pack_into m s out)
  unfolding numbers_of pack_into
  pack_turns out = turns _ (pack_tests m s (length out)) (λ (x : Result ⊤ Refusal × List ℕ). x.0) (λ why. (Err why, out))
      (λ c. (c, filled_on c out (fill_from (word_at s m.symbols) (entry_count m) 0 out))) _ refl (pack_first m s (length out)) refl (λ why. refl) (λ why. refl)

module _ (k : ℕ) (w : List ℕ) where
  pub word_turns : TurnsAway (9 ∷ 10 ∷ []) (word_tests k w) (λ (r : Result ⊤ Refusal). r) Err (word_check k w)
  unfolding numbers_of
  word_turns = turns _ (word_tests k w) _ Err (λ (c : Result ⊤ Refusal). c) _ refl (word_first k w) refl (λ why. refl) (λ why. refl)

  pub word_place : (i : ℕ) → word_check k w ≡ Err (Why.WordSymbol i) → (i < length w) × (k ≤ get_or w i 0) × ((j : ℕ) → j < i → get_or w j 0 < k)
  unfolding word_check symbols_check
  word_place i = pick_cases (leb (length w) 1048576) _ _ (λ x. x ≡ Err (Why.WordSymbol i) → Place) (λ t. by _ (scanned (symbol_in k w) (length w) 0))
      (λ t e. let z : ◌≡◌ {A = ℕ} 0 1 = cc in absurd (omega arith))
    where
      Place : Type 0
      Place = (i < length w) × (k ≤ get_or w i 0) × ((j : ℕ) → j < i → get_or w j 0 < k)

      by : (x : Option ℕ) → Scanned (symbol_in k w) (length w) 0 x → answer_at Why.WordSymbol x ≡ Err (Why.WordSymbol i) → Place
      by x (clean h) e = let z : ◌≡◌ {A = ℕ} 0 1 = cc in absurd (omega arith)
      by x (failed j a b z r) e =
          let q : j ≡ i = cc in
          rw (← q) (omega arith, omega (arith, ltb-false (get_or w j 0) k z), λ l h. ltb-true (get_or w l 0) k (r l (omega arith) h))

module _ (glyphs flags word : List ℕ) where
  pub encode_turns : (out : List ℕ)
      → TurnsAway (17 ∷ 18 ∷ []) (encode_tests glyphs flags word (length out)) (λ (x : Result ⊤ Refusal × List ℕ). x.0) (λ why. (Err why, out))
      (encode_check glyphs flags word (length out), encode_into glyphs flags word out)
  unfolding numbers_of encode_into
  encode_turns out = turns _ (encode_tests glyphs flags word (length out)) (λ (x : Result ⊤ Refusal × List ℕ). x.0) (λ why. (Err why, out))
      (λ c. (c, filled_on c out (fill_from (byte_at glyphs word) (length word) 0 out))) _ refl (encode_first glyphs flags word (length out)) refl (λ why. refl) (λ why. refl)

-- ---- the plain engine

pub plain_new_turns : (m : Machine) (s w c0 c1 c2 : List ℕ)
    → TurnsAway (1 ∷ 2 ∷ 3 ∷ 4 ∷ 5 ∷ 6 ∷ 9 ∷ 10 ∷ 11 ∷ []) (plain_new_tests m s w c0 c1 c2) (λ (x : Plains.Made). refusal_of x.answer) (λ why. Plains.made (Err why) c0 c1 c2)
    (Plains.new_answer m s w c0 c1 c2)
unfolding numbers_of Plains.new_answer
plain_new_turns m s w c0 c1 c2 = turns _ (plain_new_tests m s w c0 c1 c2) (λ (x : Plains.Made). refusal_of x.answer) (λ why. Plains.made (Err why) c0 c1 c2)
    (λ c. Plains.fresh_on c c0 c1 c2 (Plains.made_with m (fresh_of w c0) (Plains.blank_tape (Plains.has1 m) c1) (Plains.blank_tape (Plains.has2 m) c2)))
    _ refl (plain_new_first m s w c0 c1 c2) refl (λ why. refl) (λ why. refl)

module _ (m : Machine) (s : List ℕ) (σ : Plain.Conf) where
  pub plain_engine_turns : TurnsAway (1 ∷ 2 ∷ 3 ∷ 4 ∷ 5 ∷ 6 ∷ 11 ∷ 12 ∷ []) (plain_engine_tests m s σ) (λ (r : Result ⊤ Refusal). r) Err (Plains.engine_check m s σ)
  unfolding numbers_of
  plain_engine_turns = turns _ (plain_engine_tests m s σ) _ Err (λ (c : Result ⊤ Refusal). c) _ refl (plain_engine_first m s σ) refl (λ why. refl) (λ why. refl)

  pub plain_step_turns : TurnsAway (1 ∷ 2 ∷ 3 ∷ 4 ∷ 5 ∷ 6 ∷ 11 ∷ 12 ∷ 13 ∷ []) (plain_run_tests m s σ 1) (λ (x : Plains.StepGiven). refusal_of x.answer)
      (λ why. Plains.step_given σ (Err why)) (Plains.step_answer m s σ)
  unfolding numbers_of Plains.step_answer
  plain_step_turns = turns _ (plain_run_tests m s σ 1) (λ (x : Plains.StepGiven). refusal_of x.answer) (λ why. Plains.step_given σ (Err why))
      (λ c. Plains.step_on c σ (Plains.step_back m σ (Plain.once_of m s (Plains.bare_of m σ)))) _ refl (plain_run_first m s σ 1) refl (λ why. refl) (λ why. refl)

pub plain_run_turns : (m : Machine) (s : List ℕ) (rule : Option State) (fuel : ℕ) (σ : Plain.Conf)
    → TurnsAway (1 ∷ 2 ∷ 3 ∷ 4 ∷ 5 ∷ 6 ∷ 11 ∷ 12 ∷ 13 ∷ []) (plain_run_tests m s σ fuel) (λ (x : Plains.Given). refusal_of x.answer) (λ why. Plains.given σ (Err why))
    (Plains.run_answer m s rule fuel σ)
unfolding numbers_of Plains.run_answer
plain_run_turns m s rule fuel σ = turns _ (plain_run_tests m s σ fuel) (λ (x : Plains.Given). refusal_of x.answer) (λ why. Plains.given σ (Err why))
    (λ c. Plains.run_on c σ (Plains.ran_back m σ (Plain.run_of (Plain.task m s true rule) fuel (Plains.bare_of m σ)))) _ refl (plain_run_first m s σ fuel) refl (λ why. refl) (λ why. refl)

pub plain_fast_turns : (m : Machine) (s words : List ℕ) (rule : Option State) (fuel : ℕ) (σ : Plain.Conf)
    → TurnsAway (1 ∷ 2 ∷ 3 ∷ 4 ∷ 5 ∷ 6 ∷ 7 ∷ 11 ∷ 12 ∷ 13 ∷ []) (plain_fast_tests m s σ words fuel) (λ (x : Plains.Given). refusal_of x.answer) (λ why. Plains.given σ (Err why))
    (Plains.fast_answer m s words rule fuel σ)
unfolding numbers_of Plains.fast_answer
plain_fast_turns m s words rule fuel σ = turns _ (plain_fast_tests m s σ words fuel) (λ (x : Plains.Given). refusal_of x.answer) (λ why. Plains.given σ (Err why))
    (λ c. Plains.run_on c σ (Plains.ran_back m σ (Plain.run_of (Plain.task m s true rule) fuel (Plains.bare_of m σ)))) _ refl (plain_fast_first m s σ words fuel) refl (λ why. refl) (λ why. refl)

module _ (m : Machine) (s : List ℕ) (i : ℕ) where
  -- any question whose answer depends on its check
  plain_asked : (σ : Plain.Conf) {X : Type 0} (refusal : X → Result ⊤ Refusal) (as_it_was : Refusal → X) (on : Result ⊤ Refusal → X)
      → refusal (on (Ok tt)) ≡ Ok tt → ((why : Refusal) → on (Err why) ≡ as_it_was why) → ((why : Refusal) → refusal (as_it_was why) ≡ Err why)
      → TurnsAway (1 ∷ 2 ∷ 3 ∷ 4 ∷ 5 ∷ 6 ∷ 11 ∷ 12 ∷ []) (plain_ask_tests m s σ i) refusal as_it_was (on (Asks.question_check m s i σ))
  unfolding numbers_of
  plain_asked σ refusal as_it_was on = turns _ (plain_ask_tests m s σ i) refusal as_it_was on _ refl (plain_ask_first m s σ i)

  pub plain_get_turns : (z : ℤ) (σ : Plain.Conf) → TurnsAway (1 ∷ 2 ∷ 3 ∷ 4 ∷ 5 ∷ 6 ∷ 11 ∷ 12 ∷ []) (plain_ask_tests m s σ i) refusal_of Err (Asks.get_answer m s i z σ)
  unfolding Asks.get_answer
  plain_get_turns z σ = plain_asked σ refusal_of Err (λ c. Asks.asked_on c Err (Ok (symbol_of (cell_of (Asks.held_at i σ) z)))) refl (λ why. refl) (λ why. refl)

  pub plain_extent_turns : (σ : Plain.Conf) → TurnsAway (1 ∷ 2 ∷ 3 ∷ 4 ∷ 5 ∷ 6 ∷ 11 ∷ 12 ∷ []) (plain_ask_tests m s σ i) refusal_of Err (Asks.extent_answer m s i σ)
  unfolding Asks.extent_answer
  plain_extent_turns σ = plain_asked σ refusal_of Err (λ c. Asks.asked_on c Err (Ok (non_blank_of (Asks.held_at i σ)))) refl (λ why. refl) (λ why. refl)

  pub plain_count_turns : (σ : Plain.Conf) → TurnsAway (1 ∷ 2 ∷ 3 ∷ 4 ∷ 5 ∷ 6 ∷ 11 ∷ 12 ∷ []) (plain_ask_tests m s σ i) refusal_of Err (Asks.count_answer m s i σ)
  unfolding Asks.count_answer
  plain_count_turns σ = plain_asked σ refusal_of Err (λ c. Asks.asked_on c Err (Ok (count_of (Asks.held_at i σ)))) refl (λ why. refl) (λ why. refl)

  pub plain_window_turns : (z : ℤ) (σ : Plain.Conf) (out : List ℕ)
      → TurnsAway (1 ∷ 2 ∷ 3 ∷ 4 ∷ 5 ∷ 6 ∷ 11 ∷ 12 ∷ []) (plain_ask_tests m s σ i) (λ (x : Result ⊤ Refusal × List ℕ). x.0) (λ why. (Err why, out))
      (Asks.question_check m s i σ, Asks.window_into m s i z σ out)
  unfolding Asks.window_into
  plain_window_turns z σ out = plain_asked σ (λ (x : Result ⊤ Refusal × List ℕ). x.0) (λ why. (Err why, out))
      (λ c. (c, Asks.asked_on c (λ why. out) (window_of (Asks.held_at i σ) z out))) refl (λ why. refl) (λ why. refl)

  pub plain_find_turns : (z : ℤ) (d : Dir) (σ : Plain.Conf)
      → TurnsAway (1 ∷ 2 ∷ 3 ∷ 4 ∷ 5 ∷ 6 ∷ 11 ∷ 12 ∷ []) (plain_ask_tests m s σ i) refusal_of Err (Asks.find_answer m s i z d σ)
  unfolding Asks.find_answer
  plain_find_turns z d σ = plain_asked σ refusal_of Err (λ c. Asks.asked_on c Err (Ok (find_of (Asks.held_at i σ) z d))) refl (λ why. refl) (λ why. refl)
