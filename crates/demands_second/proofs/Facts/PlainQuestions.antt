-- The answers of the plain engine's questions: they read tape i of the configuration that it holds. Assumes nothing.
use Rattle.outcome.specs.declared.Refusal.{Refusal}
use Rattle.std.specs.Prelude.{◌≡◌, refl, Bool, true, false, List, ℕ, ◌≤◌, ◌<◌, ◌^◌, eqb, leb, ℤ, ◌+ℤ◌, get_or, Err, Ok, Option, Result, ⊤}
use Rattle.std.proofs.Math.Path.{sym, ap}
use Rattle.std.proofs.Common.{◌∙◌, subst, arith}
use borrow.Author.Tests.{eqb-true, eqb-false, leb-true, ltb-true, lt-ltb}
use Rattle.std.proofs.Math.IntN.{pos}
use Rattle.std.proofs.Math.ListN.{length}
use Rattle.notation.specs.Choice.{pick}
use Rattle.notation.specs.Position.{dn}
use Rattle.notation.proofs.Facts.Tests.{clash, both_split}
use Rattle.notation.specs.Limits.{cells_most}
use Rattle.symbol.specs.declared.Symbol.{Symbol}
use Rattle.symbol.specs.declared.Dir.{Dir}
use Rattle.machine.specs.declared.Machine.{Machine}
use Rattle.machine.proofs.Facts.Check.{demand_says, on_says}
use Rattle.tape.specs.declared.Tape.{Tape}
use Rattle.tape.specs.declared.Span.{Span}
use Rattle.tape.specs.Model.Moves.{held, no_tape}
use Rattle.tape.specs.Model.Questions.{non_blank_of, count_of, find_of}
use Rattle.tape.specs.Answers.{Finds, Spans}
use Rattle.run_checks.specs.Model.Sizes.{sizes_fit}
use Rattle.table_machine.specs.TableMachine.{Tape as Cells}
use Rattle.sim.specs.Model.Engine.{Conf, tape1, tape2}
use Rattle.sim.specs.Model.Operations.{if_has, bare_sim, bare_of, engine_check}
use Rattle.sim.proofs.Facts.OperationCases.{Passed, engine_says}
use Rattle.sim.specs.Model.Questions.{tape_at, held_at, question_check, asked_on, get_answer, extent_answer, count_answer, window_into, find_answer}
use Rattle.sim_refines.specs.Meaning.{tape_of, has, tape_if, config_of, FitsIf, EngineFits}
use Rattle.sim_refines.specs.Counts.{Counts}
use Rattle.sim_refines.proofs.Facts.MissingTapes.{bare_fits}
use Rattle.sim_refines.proofs.Facts.Questions.{find_is, non_blank_is, count_is, window_length, window_is}
use Rattle.demands_second.specs.PlainClaims.{tape_on}

-- ---- an answer that is no refusal was accepted

found_got : (c : Result ⊤ Refusal) (y x : Symbol) → asked_on c Err (Ok y) ≡ Ok x → (c ≡ Ok tt) × (y ≡ x)
found_got (Err why) y x e = let z : ◌≡◌ {A = ℕ} 0 1 = cc in absurd (omega arith)
found_got (Ok tt) y x e = (refl, cc)

found_extent : (c : Result ⊤ Refusal) (y x : Option Span) → asked_on c Err (Ok y) ≡ Ok x → (c ≡ Ok tt) × (y ≡ x)
found_extent (Err why) y x e = let z : ◌≡◌ {A = ℕ} 0 1 = cc in absurd (omega arith)
found_extent (Ok tt) y x e = (refl, cc)

found_counted : (c : Result ⊤ Refusal) (y x : ℕ) → asked_on c Err (Ok y) ≡ Ok x → (c ≡ Ok tt) × (y ≡ x)
found_counted (Err why) y x e = let z : ◌≡◌ {A = ℕ} 0 1 = cc in absurd (omega arith)
found_counted (Ok tt) y x e = (refl, cc)

found_located : (c : Result ⊤ Refusal) (y x : Option ℤ) → asked_on c Err (Ok y) ≡ Ok x → (c ≡ Ok tt) × (y ≡ x)
found_located (Err why) y x e = let z : ◌≡◌ {A = ℕ} 0 1 = cc in absurd (omega arith)
found_located (Ok tt) y x e = (refl, cc)

-- ---- the tape with a given number

tape_cases : (a b : Bool) (x y z : Tape) (c d e : List ℕ) (p q r : Cells) → tape_of (held x c) ≡ p → (a ≡ false → b ≡ true → tape_of (held y d) ≡ q)
    → (a ≡ false → b ≡ false → tape_of (held z e) ≡ r) → tape_of (held (pick a x (pick b y z)) (pick a c (pick b d e))) ≡ pick a p (pick b q r)
unfolding pick
tape_cases true b x y z c d e p q r f g h = f
tape_cases false true x y z c d e p q r f g h = g refl refl
tape_cases false false x y z c d e p q r f g h = h refl refl

len_cases : (a b : Bool) (x y z : Tape) (n : ℕ) → x.len ≤ n → (a ≡ false → b ≡ true → y.len ≤ n) → (a ≡ false → b ≡ false → z.len ≤ n) → (pick a x (pick b y z)).len ≤ n
unfolding pick
len_cases true b x y z n f g h = f
len_cases false true x y z n f g h = g refl refl
len_cases false false x y z n f g h = h refl refl

-- a tape that the machine has lies in its buffer, and the buffer has at most 2^30 cells
fits_has : (b : Bool) (k : ℕ) (t : Tape) (c : List ℕ) → b ≡ true → FitsIf b k (held (pick b t no_tape) c) → t.len ≤ length c
unfolding pick
fits_has true k t c e f = f.most
fits_has false k t c e f = absurd (clash e refl)

most_has : (b : Bool) (n : ℕ) → b ≡ true → if_has b (leb n cells_most) ≡ true → n ≤ cells_most
unfolding pick
most_has true n e f = leb-true n cells_most f
most_has false n e f = absurd (clash e refl)

module _ (m : Machine) (s : List ℕ) (i : ℕ) (σ : Conf) where
  -- the machine has the tape with this number, and the engine fits
  pub asked_says : question_check m s i σ ≡ Ok tt → (i < m.tapes) × Passed m s σ
  unfolding question_check
  asked_says c =
      let p = on_says (engine_check m s σ) _ c in
      (ltb-true i m.tapes (demand_says _ _ _ p.1).0, engine_says m s σ p.0)

  module _ (there : i < m.tapes) where
    pub has_1 : eqb i 1 ≡ true → has m 1 ≡ true
    has_1 b = lt-ltb 1 m.tapes (omega (arith, eqb-true i 1 b))

    pub has_2 : eqb i 0 ≡ false → eqb i 1 ≡ false → has m 2 ≡ true
    has_2 a b =
        let x : ¬ (i ≡ 0) = eqb-false i 0 a in
        let y : ¬ (i ≡ 1) = eqb-false i 1 b in
        lt-ltb 2 m.tapes (omega arith)

    tape_is : tape_of (held_at i σ) ≡ tape_on i (config_of m σ)
    tape_is = tape_cases (eqb i 0) (eqb i 1) σ.sim.t0 σ.sim.t1 σ.sim.t2 σ.c0 σ.c1 σ.c2 _ _ _ refl
        (λ a b. sym (ap (λ h. tape_if h (tape1 σ)) (has_1 b))) (λ a b. sym (ap (λ h. tape_if h (tape2 σ)) (has_2 a b)))

    len_small : Passed m s σ → (tape_at i σ.sim).len ≤ cells_most
    unfolding sizes_fit bare_sim
    len_small p =
        let f : EngineFits m (bare_of m σ) = bare_fits m σ p.fits in
        let z = both_split p.sizes in
        let y = both_split z.1 in
        let l0 : length σ.c0 ≤ cells_most = leb-true (length σ.c0) cells_most z.0 in
        let m0 : σ.sim.t0.len ≤ length σ.c0 = f.fits0.most in
        len_cases (eqb i 0) (eqb i 1) σ.sim.t0 σ.sim.t1 σ.sim.t2 cells_most (omega arith)
        (λ a b.
        let l1 : length σ.c1 ≤ cells_most = most_has (has m 1) (length σ.c1) (has_1 b) y.0 in
        let m1 : σ.sim.t1.len ≤ length σ.c1 = fits_has (has m 1) m.symbols σ.sim.t1 σ.c1 (has_1 b) f.fits1 in
        omega arith)
        (λ a b.
        let l2 : length σ.c2 ≤ cells_most = most_has (has m 2) (length σ.c2) (has_2 a b) y.1 in
        let m2 : σ.sim.t2.len ≤ length σ.c2 = fits_has (has m 2) m.symbols σ.sim.t2 σ.c2 (has_2 a b) f.fits2 in
        omega arith)

  -- ---- the five questions

  pub plain_gets : (z : ℤ) (x : Symbol) → get_answer m s i z σ ≡ Ok x → x.0 ≡ (tape_on i (config_of m σ)).cell z
  unfolding get_answer
  plain_gets z x e =
      let p = found_got (question_check m s i σ) _ _ e in
      sym (ap (λ (y : Symbol). y.0) p.1) ∙ ap (λ (t : Cells). t.cell z) (tape_is (asked_says p.0).0)

  pub plain_spans : (x : Option Span) → extent_answer m s i σ ≡ Ok x → Spans (tape_on i (config_of m σ)).cell x
  unfolding extent_answer
  plain_spans x e =
      let p = found_extent (question_check m s i σ) _ _ e in
      rw (← p.1) (subst (λ (t : Cells). Spans t.cell (non_blank_of (held_at i σ))) (tape_is (asked_says p.0).0) (non_blank_is (held_at i σ)))

  pub plain_counts : (n : ℕ) → count_answer m s i σ ≡ Ok n → Counts (tape_on i (config_of m σ)).cell n
  unfolding count_answer
  plain_counts n e =
      let p = found_counted (question_check m s i σ) _ _ e in
      rw (← p.1) (subst (λ (t : Cells). Counts t.cell (count_of (held_at i σ))) (tape_is (asked_says p.0).0) (count_is (held_at i σ)))

  pub plain_finds : (z : ℤ) (d : Dir) (x : Option ℤ) → find_answer m s i z d σ ≡ Ok x → Finds (tape_on i (config_of m σ)).cell z d x
  unfolding find_answer
  plain_finds z d x e =
      let p = found_located (question_check m s i σ) _ _ e in
      rw (← p.1) (subst (λ (t : Cells). Finds t.cell z d (find_of (held_at i σ) z d)) (tape_is (asked_says p.0).0) (find_is (held_at i σ) z d))

  pub plain_windows : question_check m s i σ ≡ Ok tt → (z : ℤ) → dn z ≤ 2 ^ 63 → (out : List ℕ)
      → (length (window_into m s i z σ out) ≡ length out) × ((j : ℕ) → j < length out → get_or (window_into m s i z σ out) j 0 ≡ (tape_on i (config_of m σ)).cell (z +ℤ pos j))
  unfolding window_into
  plain_windows c z low out =
      let p = asked_says c in
      let short : (tape_at i σ.sim).len ≤ 2 ^ 63 = omega (arith, len_small p.0 p.1) in
      rw c (window_length (held_at i σ) z out, λ j l. window_is (held_at i σ) z out low short j l ∙ ap (λ (t : Cells). t.cell (z +ℤ pos j)) (tape_is p.0))
