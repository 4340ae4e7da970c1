-- Each operation's check is the first of its list of tests. Assumes nothing.
use Rattle.std.specs.Prelude.{◌≡◌, Bool, true, false, List, [], ◌∷◌, ◌++◌, ℕ, ◌*◌, eqb, ltb, leb, length, Err, Ok, Option, Result, ⊤}
use Rattle.std.proofs.Math.Path.{refl, ap}
use Rattle.std.proofs.Common.{sym, ◌∙◌, arith, le-leb, leb-true}
use Rattle.notation.specs.Choice.{pick, both}
use Rattle.notation.proofs.Facts.Tests.{clash, by_test, pick_true, pick_false}
use Rattle.notation.specs.Scan.{all_in, first_fail}
use Rattle.notation.proofs.Facts.Scan.{Scanned, clean, failed, scanned, all_says, all_holds}
use Rattle.outcome.specs.declared.Refusal.{Refusal}
use Rattle.outcome.specs.declared.Refusal.TheVariants as Why
use Rattle.machine.specs.declared.Machine.{Machine}
use Rattle.machine.specs.Layout.{entry_count}
use Rattle.machine.specs.Model.Check.{within, demand, checked_on, answer_at, entry_ok, entries_check, size_check, table_check}
use Rattle.machine.specs.Model.Packing.{pack_check}
use Rattle.machine.specs.Model.Word.{symbol_in, symbols_check, word_check}
use Rattle.alphabet.specs.Model.{allowed_at, glyphs_check, encode_check}
use Rattle.run_checks.specs.Model.Sizes as Sizes
use Rattle.run_checks.proofs.Facts.SizesCases.{fuel_says}
use Rattle.sim.specs.Model.Engine as Plain
use Rattle.sim.specs.Model.Operations as Plains
use Rattle.sim.specs.Model.Questions.{question_check}
use Rattle.rle_stack.specs.Model.{places_of}
use Rattle.rle.specs.Model.Engine as Chain
use Rattle.rle.specs.Fits as Fits
use Rattle.rle.specs.Model.Operations as Chains
use Rattle.demands_second.proofs.Facts.PlainAccepts.{fuel_passes}
use Rattle.demands_first.specs.FirstClaims.{Test, or, first_of, numbers_of, number_or0, lowest, TurnsAway}
use Rattle.demands_first.specs.FirstTests.{table_tests, pack_tests, word_tests, encode_tests, fresh_cells, places_up_to, step_limit, plain_new_tests, plain_sizes, plain_fits, plain_run_tests, plain_fast_tests, plain_ask_tests, one_tape, chain_new_tests, chain_ask_tests, chain_run_tests}

-- ---- an operation whose result depends on its check alone

-- `on c` is its result where its check gives c
pub turns : {X : Type 0} (numbers : List ℕ) (tests : List Test) (refusal : X → Result ⊤ Refusal) (as_it_was : Refusal → X) (on : Result ⊤ Refusal → X) (c : Result ⊤ Refusal)
    → numbers_of tests ≡ numbers → c ≡ first_of tests → refusal (on (Ok tt)) ≡ Ok tt → ((why : Refusal) → on (Err why) ≡ as_it_was why)
    → ((why : Refusal) → refusal (as_it_was why) ≡ Err why) → TurnsAway numbers tests refusal as_it_was (on c)
turns numbers tests refusal as_it_was on c n e done kept says = record { numbered = n; first = by c ∙ e; unchanged = same c }
  where
    by : (c : Result ⊤ Refusal) → refusal (on c) ≡ c
    by (Ok tt) = done
    by (Err why) = ap refusal (kept why) ∙ says why

    same : (c : Result ⊤ Refusal) → (why : Refusal) → refusal (on c) ≡ Err why → on c ≡ as_it_was why
    same (Ok tt) why h = let k : (Ok tt) ≡ Err why = sym done ∙ h in let z : ◌≡◌ {A = ℕ} 0 1 = cc in absurd (omega arith)
    same (Err r) why h = let k : Err r ≡ Err why = sym (by (Err r)) ∙ h in let q : r ≡ why = cc in kept r ∙ ap as_it_was q

-- ---- one list after another

pick_on : (b : Bool) (x y z : Result ⊤ Refusal) (r : Refusal) → checked_on x y ≡ z → checked_on (pick b x (Err r)) y ≡ pick b z (Err r)
unfolding pick
pick_on true x y z r e = e
pick_on false x y z r e = refl

both_on : (a b : Bool) (r : Refusal) → checked_on (pick a (Ok tt) (Err r)) (pick b (Ok tt) (Err r)) ≡ pick (both a b) (Ok tt) (Err r)
unfolding pick both
both_on true b r = refl
both_on false b r = refl

first_add : (a b : List Test) → checked_on (first_of a) (first_of b) ≡ first_of (a ++ b)
unfolding first_of
first_add [] b = refl
first_add (t ∷ a) b = pick_on t.holds (first_of a) (first_of b) (first_of (a ++ b)) t.why (first_add a b)

pub on_first : (c d : Result ⊤ Refusal) (a b : List Test) → c ≡ first_of a → d ≡ first_of b → checked_on c d ≡ first_of (a ++ b)
on_first c d a b p q = (λ i. checked_on (p i) (q i)) ∙ first_add a b

on_on : (a b c : Result ⊤ Refusal) → checked_on (checked_on a b) c ≡ checked_on a (checked_on b c)
on_on (Err why) b c = refl
on_on (Ok tt) b c = refl

-- ---- 6, 10 and 17: the lowest number whose test fails

scan-first : (p : ℕ → Bool) (n : ℕ) (why : ℕ → Refusal) → answer_at why (first_fail p n 0) ≡ pick (all_in p n 0) (Ok tt) (Err (why (lowest p n)))
scan-first p n why = by (first_fail p n 0) (scanned p n 0)
  where
    by : (x : Option ℕ) → Scanned p n 0 x → answer_at why x ≡ pick (all_in p n 0) (Ok tt) (Err (why (number_or0 x)))
    by x (clean h) = sym (pick_true _ _ _ (all_holds p n 0 h))
    by x (failed j a b z r) = sym (pick_false _ _ _ (by_test (all_in p n 0) (λ t. absurd (clash (all_says p n 0 t j a b) z)) (λ t. t)))

module _ (m : Machine) (s : List ℕ) where
  pub table_first : table_check m s ≡ first_of (table_tests m s)
  unfolding table_check size_check entries_check first_of
  table_first =
      ap (λ (x : Result ⊤ Refusal). demand (within 1 3 m.tapes) Why.Tapes (demand (within 1 256 m.symbols) Why.Symbols (demand (within 1 65536 m.states) Why.States
      (demand (ltb m.start m.states) Why.Start (demand (eqb (length s) (8 * entry_count m)) Why.TableSize x)))))
      (scan-first (entry_ok m s) (entry_count m) Why.Entry)

  pub pack_first : (room : ℕ) → pack_check m s room ≡ first_of (pack_tests m s room)
  unfolding pack_check first_of
  pack_first room = on_first _ _ (table_tests m s) (or (eqb m.tapes 1) Why.PackedWords ∷ or (leb (entry_count m) room) Why.OutputSize ∷ []) table_first refl

pub word_first : (k : ℕ) (w : List ℕ) → word_check k w ≡ first_of (word_tests k w)
unfolding word_check symbols_check first_of
word_first k w = ap (demand (leb (length w) 1048576) Why.WordLength) (scan-first (symbol_in k w) (length w) Why.WordSymbol)

pub encode_first : (glyphs flags word : List ℕ) (room : ℕ) → encode_check glyphs flags word room ≡ first_of (encode_tests glyphs flags word room)
unfolding encode_check glyphs_check first_of
encode_first glyphs flags word room =
    on_first _ _ (or (all_in (allowed_at glyphs flags word) (length word) 0) (Why.Glyph (lowest (allowed_at glyphs flags word) (length word))) ∷ [])
    (or (leb (length word) room) Why.OutputSize ∷ [])
    (scan-first (allowed_at glyphs flags word) (length word) Why.Glyph)
    refl

-- ---- 13: the model's test, which computes no sum that could wrap, is document 01's

limit_same : (steps fuel : ℕ) → Sizes.fuel_fits steps fuel ≡ step_limit steps fuel
limit_same steps fuel =
    by_test (step_limit steps fuel) (λ t. fuel_passes steps fuel (leb-true _ _ t) ∙ sym t)
    (λ f. by_test (Sizes.fuel_fits steps fuel) (λ t. absurd (clash (le-leb _ _ (fuel_says steps fuel t)) f)) (λ t. t ∙ sym f))

limit_first : (steps fuel : ℕ) → demand (Sizes.fuel_fits steps fuel) Why.StepLimit (Ok tt) ≡ first_of (or (step_limit steps fuel) Why.StepLimit ∷ [])
unfolding first_of
limit_first steps fuel = ap (λ (b : Bool). pick b (Ok tt) (Err Why.StepLimit)) (limit_same steps fuel)

-- ---- the plain engine

pub plain_new_first : (m : Machine) (s w c0 c1 c2 : List ℕ) → Sizes.fresh_check m s w (length c0) (length c1) (length c2) ≡ first_of (plain_new_tests m s w c0 c1 c2)
unfolding Sizes.fresh_check Sizes.fresh_sizes first_of
plain_new_first m s w c0 c1 c2 =
    on_first _ _ (table_tests m s) (word_tests m.symbols w ++ or (fresh_cells m (length w) (length c0) (length c1) (length c2)) Why.BufferSize ∷ []) (table_first m s)
    (on_first _ _ (word_tests m.symbols w) (or (fresh_cells m (length w) (length c0) (length c1) (length c2)) Why.BufferSize ∷ []) (word_first m.symbols w) refl)

module _ (m : Machine) (s : List ℕ) (σ : Plain.Conf) where
  abbrev sizes : Test
  sizes = plain_sizes m s σ

  abbrev fits : Test
  fits = plain_fits m s σ

  pub value_first : Plains.value_check m σ ≡ first_of (sizes ∷ fits ∷ [])
  unfolding Plains.value_check Sizes.sizes_fit first_of
  value_first = refl

  fuel_first : (fuel : ℕ) → Plains.fuel_check m fuel σ ≡ first_of (sizes ∷ fits ∷ or (step_limit σ.sim.steps fuel) Why.StepLimit ∷ [])
  unfolding Plains.fuel_check first_of
  fuel_first fuel = on_first _ _ (sizes ∷ fits ∷ []) (or (step_limit σ.sim.steps fuel) Why.StepLimit ∷ []) value_first (limit_first σ.sim.steps fuel)

  pub plain_run_first : (fuel : ℕ) → Plains.run_check m s fuel σ ≡ first_of (plain_run_tests m s σ fuel)
  unfolding Plains.run_check
  plain_run_first fuel = on_first _ _ (table_tests m s) _ (table_first m s) (fuel_first fuel)

  pub plain_fast_first : (words : List ℕ) (fuel : ℕ) → Plains.fast_check m s words fuel σ ≡ first_of (plain_fast_tests m s σ words fuel)
  unfolding Plains.fast_check first_of
  plain_fast_first words fuel =
      on_first _ _ (table_tests m s) (or (Sizes.words_right m s words) Why.PackedWords ∷ sizes ∷ fits ∷ or (step_limit σ.sim.steps fuel) Why.StepLimit ∷ []) (table_first m s)
      (ap (demand (Sizes.words_right m s words) Why.PackedWords) (fuel_first fuel))

  -- 12 for the value, and 12 for the tape's number
  ask_first : (i : ℕ) → checked_on (Plains.value_check m σ) (demand (ltb i m.tapes) Why.Misfit (Ok tt)) ≡ first_of (sizes ∷ or (both fits.holds (ltb i m.tapes)) Why.Misfit ∷ [])
  unfolding Plains.value_check Sizes.sizes_fit first_of
  ask_first i = pick_on sizes.holds _ _ _ Why.BufferSize (both_on fits.holds (ltb i m.tapes) Why.Misfit)

  pub plain_ask_first : (i : ℕ) → question_check m s i σ ≡ first_of (plain_ask_tests m s σ i)
  unfolding question_check Plains.engine_check
  plain_ask_first i = on_on (table_check m s) (Plains.value_check m σ) _ ∙ on_first _ _ (table_tests m s) _ (table_first m s) (ask_first i)

-- ---- the run-length engine

pub chain_new_first : (m : Machine) (s w ls ll rs rl : List ℕ) → Chains.fresh_check m s w (places_of ls ll) (places_of rs rl) ≡ first_of (chain_new_tests m s w ls ll rs rl)
unfolding Chains.fresh_check first_of
chain_new_first m s w ls ll rs rl =
    on_first _ _ (table_tests m s) (one_tape m ∷ word_tests m.symbols w ++ or (Chains.fresh_sizes w (places_of ls ll) (places_of rs rl)) Why.BufferSize ∷ []) (table_first m s)
    (ap (demand (eqb m.tapes 1) Why.SeveralTapes)
    (on_first _ _ (word_tests m.symbols w) (or (Chains.fresh_sizes w (places_of ls ll) (places_of rs rl)) Why.BufferSize ∷ []) (word_first m.symbols w) refl))

module _ (m : Machine) (s : List ℕ) (σ : Chain.Conf) where
  pub chain_ask_first : Fits.engine_check m s σ ≡ first_of (chain_ask_tests m s σ)
  unfolding Fits.engine_check Fits.value_check Fits.places_fit first_of
  chain_ask_first =
      on_first _ _ (table_tests m s)
      (one_tape m ∷ or (places_up_to (places_of σ.ls σ.ll) (places_of σ.rs σ.rl)) Why.BufferSize ∷ or (Fits.chain_fits m σ) Why.Misfit ∷ [])
      (table_first m s) refl

  pub chain_run_first : (fuel : ℕ) → Fits.run_check m s fuel σ ≡ first_of (chain_run_tests m s σ fuel)
  unfolding Fits.run_check first_of
  chain_run_first fuel = on_first _ _ (chain_ask_tests m s σ) (or (step_limit σ.sim.steps fuel) Why.StepLimit ∷ []) chain_ask_first (limit_first σ.sim.steps fuel)
