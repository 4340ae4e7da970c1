-- The plain engine and the packing of a table answer every input that document 01 accepts. Assumes nothing.
use Rattle.symbol.specs.declared.State.{State}
use Rattle.std.specs.Prelude.{◌≡◌, refl, Bool, List, ℕ, ◌+◌, ◌*◌, ◌≤◌, ◌<◌, ◌^◌, ℤ, Ok, Option}
use Rattle.std.proofs.Math.Path.{sym, ap}
use Rattle.std.proofs.Common.{◌∙◌}
use Rattle.std.proofs.Math.Bool.{true}
use native.Mathlib.Omega.{arith}
use borrow.Author.Tests.{le-leb, lt-ltb, eq-eqb, ltb-true, eqb-true}
use Rattle.std.proofs.Math.ListN.{length}
use Rattle.notation.specs.Choice.{pick}
use Rattle.notation.proofs.Facts.Fill.{length_fill}
use Rattle.notation.proofs.Facts.Scan.{clean_none, all_holds, all_says}
use Rattle.notation.proofs.Facts.Tests.{both_split, both_true, pick_cases, pick_true}
use Rattle.notation.specs.Limits.{steps_most, cells_most}
use Rattle.symbol.specs.Kinds.{symbol_of}
use Rattle.symbol.specs.declared.Symbol.{Symbol}
use Rattle.symbol.specs.declared.Dir.{Dir}
use Rattle.outcome.specs.declared.Outcome.{Outcome}
use Rattle.outcome.specs.declared.Status.{Status}
use Rattle.outcome.specs.declared.Refusal.TheVariants as Why
use Rattle.machine.specs.declared.Machine.{Machine}
use Rattle.machine.specs.Model.Check.{within, answer_at, table_check}
use Rattle.machine.proofs.Facts.CheckCases.{stride_one}
use Rattle.machine.specs.Layout.{entry_count}
use Rattle.machine.specs.Model.Packing.{pack_word, word_at, pack_into}
use Rattle.machine.specs.Model.Word.{symbol_in, symbols_check, word_check}
use Rattle.table_laws.specs.WellFormed.{LaidOut, WellFormed}
use Rattle.table_laws.proofs.Facts.CheckExact.{table_check_accepts}
use Rattle.table_laws.proofs.Facts.Reading.{entry_read}
use Rattle.table_laws.proofs.Facts.PackedTable.{packed_table_accepted, packed_table_holds, packed_table_rest}
use Rattle.tape.specs.declared.Span.{Span}
use Rattle.tape.specs.Model.Moves.{fresh_of}
use Rattle.tape.specs.Model.Questions.{cell_of, non_blank_of, count_of, find_of}
use Rattle.run_checks.specs.Model.Sizes.{word_right}
use Rattle.run_rules.specs.Model.Task.{task}
use Rattle.sim.specs.declared.Simulator.{Simulator}
use Rattle.sim.specs.Model.Engine.{Conf, run_of, once_of}
use Rattle.sim.specs.Model.Operations.{has1, has2, if_has, blank_tape, bare_of, sizes_fit, value_check, engine_check, fuel_fits, fuel_check, run_check, words_right, fast_check, Given, given, ran_back, answer_of, run_answer, fast_answer, StepGiven, step_given, step_back, step_on, step_answer, fresh_sim, fresh_sizes, fresh_check, made, made_with, fresh_on, new_answer}
use Rattle.sim.specs.Model.Questions.{held_at, question_check, get_answer, extent_answer, count_answer, find_answer}
use Rattle.sim_refines.proofs.Facts.MissingTapes.{fits_bare}
use Rattle.demands_second.specs.Accepts.{WordOf, FreshCells, PlainTaken, PackedOf, Packs}

-- the test of a tape passes where the machine lacks the tape, or where the test is true
if_has_lem : (b test : Bool) → (b ≡ true → test ≡ true) → if_has b test ≡ true
if_has_lem b test h = pick_cases b test true (λ x. x ≡ true) h (λ _. refl)

within_holds : (low high x : ℕ) → (low ≤ x) × (x ≤ high) → within low high x ≡ true
within_holds low high x h = both_true (le-leb low x h.0) (le-leb x high h.1)

pub word-passes : (m : Machine) (w : List ℕ) → WordOf m w → word_check m.symbols w ≡ Ok tt
unfolding word_check symbols_check
word-passes m w o =
    pick_true _ _ _ (le-leb _ _ o.short)
    ∙ ap (answer_at Why.WordSymbol) (clean_none (symbol_in m.symbols w) (length w) 0 (λ i a b. lt-ltb _ _ (o.symbols i (omega arith))))

pub fuel_passes : (steps fuel : ℕ) → steps + fuel ≤ 2 ^ 62 → fuel_fits steps fuel ≡ true
unfolding fuel_fits
fuel_passes steps fuel h = both_true (le-leb fuel steps_most (omega arith)) (le-leb steps _ (omega arith))

-- ---- the packed words: the test passes exactly for those that document 01 names

module _ (m : Machine) (s words : List ℕ) (t : WellFormed m s) where
  count_is : m.tapes ≡ 1 → m.states * m.symbols ≡ entry_count m
  count_is one = ap (λ (n : ℕ). m.states * n) (stride_one m.tapes m.symbols one)

  -- the word of an entry that is laid out in the table
  word_of_holds : (i : ℕ) → i < entry_count m → (l : LaidOut m s i) → word_at s m.symbols i ≡ pack_word l.entry m.symbols
  unfolding word_at
  word_of_holds i h l =
      let n : length s ≡ 8 * entry_count m = t 5 in
      ap (λ e. pack_word e m.symbols) (entry_read s i l.entry (omega arith) l.written)

  pub words_pass : PackedOf m s words → words_right m s words ≡ true
  unfolding words_right
  words_pass p =
      let c : m.states * m.symbols ≡ entry_count m = count_is p.single in
      both_true (eq-eqb _ _ p.single) (both_true (eq-eqb _ _ (p.number ∙ c))
      (all_holds (word_right s m.symbols words) (entry_count m) 0
      (λ i _ b. let h : i < entry_count m = omega arith in eq-eqb _ _ (p.each i (omega (arith, c)) (t 6 i h) ∙ sym (word_of_holds i h (t 6 i h))))))

  pub words_say : words_right m s words ≡ true → PackedOf m s words
  unfolding words_right
  words_say e =
      let z = both_split e in
      let y = both_split z.1 in
      let one : m.tapes ≡ 1 = eqb-true _ _ z.0 in
      let c : m.states * m.symbols ≡ entry_count m = count_is one in
      record {
        single = one;
        number = eqb-true _ _ y.0 ∙ sym c;
        each = λ i h l. eqb-true _ _ (all_says (word_right s m.symbols words) (entry_count m) 0 y.1 i (omega arith) (omega (arith, c))) ∙ word_of_holds i (omega (arith, c)) l;
      }

-- ---- a fresh engine

module _ (m : Machine) (s w c0 c1 c2 : List ℕ) (t : WellFormed m s) (o : WordOf m w) (f : FreshCells m w c0 c1 c2) where
  sizes_pass : fresh_sizes m (length w) (length c0) (length c1) (length c2) ≡ true
  unfolding fresh_sizes
  sizes_pass =
      both_true (within_holds _ _ _ f.cells0)
      (both_true (if_has_lem (has1 m) _ (λ h. within_holds _ _ _ (f.cells1 (ltb-true 1 m.tapes h))))
      (if_has_lem (has2 m) _ (λ h. within_holds _ _ _ (f.cells2 (ltb-true 2 m.tapes h)))))

  fresh_passes : fresh_check m s w (length c0) (length c1) (length c2) ≡ Ok tt
  unfolding fresh_check pick
  fresh_passes = rw (table_check_accepts m s t, word-passes m w o, sizes_pass)

  pub plain_new_answers : (v : Simulator) × (d0 : List ℕ) × (d1 : List ℕ) × (d2 : List ℕ) × (new_answer m s w c0 c1 c2 ≡ made (Ok v) d0 d1 d2)
  unfolding new_answer
  plain_new_answers = (
    fresh_sim m (fresh_of w c0) (blank_tape (has1 m) c1) (blank_tape (has2 m) c2),
    (fresh_of w c0).cells,
    (blank_tape (has1 m) c1).cells,
    (blank_tape (has2 m) c2).cells,
    ap (λ c. fresh_on c c0 c1 c2 (made_with m (fresh_of w c0) (blank_tape (has1 m) c1) (blank_tape (has2 m) c2))) fresh_passes,
  )

-- ---- an engine value

module _ (m : Machine) (s : List ℕ) (σ : Conf) (t : PlainTaken m s σ) where
  value_passes : value_check m σ ≡ Ok tt
  unfolding value_check sizes_fit
  value_passes =
      pick_true _ _ _ (both_true (le-leb _ cells_most t.cells0)
      (both_true (if_has_lem (has1 m) _ (λ h. le-leb _ cells_most (t.cells1 (ltb-true 1 m.tapes h))))
      (if_has_lem (has2 m) _ (λ h. le-leb _ cells_most (t.cells2 (ltb-true 2 m.tapes h))))))
      ∙ pick_true _ _ _ (fits_bare m σ t.value)

  table_passes : table_check m s ≡ Ok tt
  table_passes = table_check_accepts m s t.table

  -- ---- a step, a run, the fast run

  module _ (fuel : ℕ) (limit : σ.sim.steps + fuel ≤ 2 ^ 62) where
    limit_passes : fuel_check m fuel σ ≡ Ok tt
    unfolding fuel_check pick
    limit_passes = rw (value_passes, fuel_passes σ.sim.steps fuel limit)

    run_passes : run_check m s fuel σ ≡ Ok tt
    unfolding run_check
    run_passes = rw (table_passes, limit_passes)

    pub plain_run_answers : (rule : Option State) → (τ : Conf) × (o : Outcome) × (run_answer m s rule fuel σ ≡ given τ (Ok o))
    unfolding run_answer
    plain_run_answers rule =
        let e : Given = ran_back m σ (run_of (task m s true rule) fuel (bare_of m σ)) in
        (e.at, (run_of (task m s true rule) fuel (bare_of m σ)).outcome, ap (λ c. answer_of c m s true rule fuel σ) run_passes)

    -- the check accepts the words that document 01 names
    module _ (words : List ℕ) (p : PackedOf m s words) where
      fast_passes : fast_check m s words fuel σ ≡ Ok tt
      unfolding fast_check pick
      fast_passes = rw (table_passes, words_pass m s words t.table p, limit_passes)

      pub plain_fast_answers : (rule : Option State) → (τ : Conf) × (o : Outcome) × (fast_answer m s words rule fuel σ ≡ given τ (Ok o))
      unfolding fast_answer
      plain_fast_answers rule =
          let e : Given = ran_back m σ (run_of (task m s true rule) fuel (bare_of m σ)) in
          (e.at, (run_of (task m s true rule) fuel (bare_of m σ)).outcome, ap (λ c. answer_of c m s true rule fuel σ) fast_passes)

  pub plain_step_answers : σ.sim.steps + 1 ≤ 2 ^ 62 → (τ : Conf) × (x : Status) × (step_answer m s σ ≡ step_given τ (Ok x))
  unfolding step_answer
  plain_step_answers limit =
      let e : StepGiven = step_back m σ (once_of m s (bare_of m σ)) in
      (e.at, (once_of m s (bare_of m σ)).status, ap (λ c. step_on c σ e) (run_passes 1 limit))

  -- ---- the questions

  pub plain_asked : (i : ℕ) → i < m.tapes → question_check m s i σ ≡ Ok tt
  unfolding question_check engine_check pick
  plain_asked i h = rw (table_passes, value_passes, lt-ltb i m.tapes h)

  module _ (i : ℕ) (there : i < m.tapes) where
    pub plain_get_answers : (z : ℤ) → (x : Symbol) × (get_answer m s i z σ ≡ Ok x)
    unfolding get_answer
    plain_get_answers z = (symbol_of (cell_of (held_at i σ) z), rw (plain_asked i there))

    pub plain_span_answers : (x : Option Span) × (extent_answer m s i σ ≡ Ok x)
    unfolding extent_answer
    plain_span_answers = (non_blank_of (held_at i σ), rw (plain_asked i there))

    pub plain_count_answers : (n : ℕ) × (count_answer m s i σ ≡ Ok n)
    unfolding count_answer
    plain_count_answers = (count_of (held_at i σ), rw (plain_asked i there))

    pub plain_find_answers : (z : ℤ) (d : Dir) → (x : Option ℤ) × (find_answer m s i z d σ ≡ Ok x)
    unfolding find_answer
    plain_find_answers z d = (find_of (held_at i σ) z d, rw (plain_asked i there))

-- ---- packing

module _ (m : Machine) (s : List ℕ) (t : WellFormed m s) (one : m.tapes ≡ 1) (out : List ℕ) (room : m.states * m.symbols ≤ length out) where
  entries : m.states * m.symbols ≡ entry_count m
  entries = ap (λ (n : ℕ). m.states * n) (stride_one m.tapes m.symbols one)

  enough : entry_count m ≤ length out
  enough = omega (arith, entries)

  pub packs : Packs m s out
  unfolding pack_into
  packs = record {
    answers = packed_table_accepted m s t one out enough;
    same_length = rw (packed_table_accepted m s t one out enough) (length_fill (word_at s m.symbols) (entry_count m) 0 out);
    each = λ i h l.
        let n : length s ≡ 8 * entry_count m = t 5 in
        let g : i < entry_count m = omega (arith, entries) in
        packed_table_holds m s t one out enough i g ∙ ap (λ e. pack_word e m.symbols) (entry_read s i l.entry (omega arith) l.written);
    rest = λ i h. packed_table_rest m s t one out enough i (omega (arith, entries));
  }
