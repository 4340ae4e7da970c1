-- "Bytes of the lent buffer past the length are never read": by the operations run, fast run and step. Assumes nothing.
use Rattle.symbol.specs.declared.State.{State}
use Rattle.outcome.specs.declared.Refusal.{Refusal}
use Rattle.std.proofs.Math.Path.{◌≡◌, refl, ap, subst⁻¹}
use Rattle.std.proofs.Common.{sym, arith, leb-true, ltb-true, lt-ltb}
use Rattle.std.specs.Prelude.{Bool, List, ℕ, ltb, leb, length, Err, Ok, Option, Result, ⊤}
use Rattle.std.proofs.Math.Bool.{true, false}
use Rattle.notation.specs.Choice.{pick, both}
use Rattle.notation.proofs.Facts.Tests.{clash, both_split}
use Rattle.notation.specs.Limits.{steps_most, cells_most}
use Rattle.outcome.specs.declared.Refusal.TheVariants as Why
use Rattle.machine.specs.declared.Machine.{Machine}
use Rattle.machine.specs.Model.Check.{demand, checked_on, table_check}
use Rattle.tape.specs.declared.Tape.{Tape}
use Rattle.tape.specs.Model.Moves.{Held, held, no_tape}
use Rattle.tape.specs.Fits.{tape_fits, TapeSafe}
use Rattle.tape.proofs.Facts.Moves.{fits_safe, none_safe}
use Rattle.sim.specs.declared.Simulator.{Simulator}
use Rattle.sim.specs.Model.Engine.{task, Conf, tape0, tape1, tape2, run_of, once_of}
use Rattle.sim.specs.Model.Operations.{has1, has2, if_has, bare_sim, bare_of, hand_back, back_of, sizes_fit, sim_fits, value_check, engine_check, fuel_fits, fuel_check, run_check, words_right, fast_check, answer_of, run_answer, fast_answer, StepGiven, step_back, step_on, step_answer}
use Rattle.sim.proofs.Facts.OperationCases.{Passed, run_says, fast_runs}
use Rattle.sim_refines.specs.Meaning.{has}
use Rattle.sim_refines.specs.Lent.{SameFirst, SameLive, SameGiven, SameStepGiven}
use Rattle.sim_refines.proofs.Facts.Beside.{Beside, SameEnd, run_beside, SameOnce, once_beside}
use Rattle.sim_refines.proofs.Facts.LiveCells.{pick_two, Alike, alike_reads, fits_same}

-- ---- the start and the end of the operations

module _ (m : Machine) (σ τ : Conf) (a : SameLive m σ τ) where
  pub alive0 : Alike (tape0 σ) (tape0 τ)
  alive0 = record { numbers = ap (λ (v : Simulator). v.t0) a.value; room = a.length0; cells = a.cells0 }

  pub alive1 : has m 1 ≡ true → Alike (tape1 σ) (tape1 τ)
  alive1 h = record { numbers = ap (λ (v : Simulator). v.t1) a.value; room = a.length1; cells = a.cells1 (ltb-true 1 m.tapes h) }

  pub alive2 : has m 2 ≡ true → Alike (tape2 σ) (tape2 τ)
  alive2 h = record { numbers = ap (λ (v : Simulator). v.t2) a.value; room = a.length2; cells = a.cells2 (ltb-true 2 m.tapes h) }

  -- a tape that the machine lacks has no cells while the engine runs
  bare_alike : (b : Bool) (g h : Held) → length g.cells ≡ length h.cells → (b ≡ true → Alike g h) → Alike (held (pick b g.tape no_tape) g.cells) (held (pick b h.tape no_tape) h.cells)
  unfolding pick
  bare_alike true g h room e = e refl
  bare_alike false g h room e = record { numbers = refl; room = room; cells = λ i l. absurd (omega arith) }

  bare_safe : (b : Bool) (k : ℕ) (t : Tape) (c : List ℕ) → if_has b (tape_fits k t c) ≡ true → if_has b (leb (length c) cells_most) ≡ true → TapeSafe (pick b t no_tape) c
  unfolding pick
  bare_safe true k t c f z = fits_safe k t c f (leb-true (length c) cells_most z)
  bare_safe false k t c f z = none_safe c

  bare_beside : (s : List ℕ) → Passed m s τ → Beside (bare_of m σ) (bare_of m τ)
  unfolding bare_sim sizes_fit sim_fits
  bare_beside s p =
      let z0 = both_split p.sizes in
      let z1 = both_split z0.1 in
      let f0 = both_split (both_split (both_split p.fits).1).1 in
      let f1 = both_split f0.1 in
      record {
        state = ap (λ (v : Simulator). v.state) a.value;
        steps = ap (λ (v : Simulator). v.steps) a.value;
        alike0 = alive0;
        alike1 = bare_alike (has m 1) (tape1 σ) (tape1 τ) a.length1 alive1;
        alike2 = bare_alike (has m 2) (tape2 σ) (tape2 τ) a.length2 alive2;
        safe0 = fits_safe m.symbols τ.sim.t0 τ.c0 f0.0 (leb-true (length τ.c0) cells_most z0.0);
        safe1 = bare_safe (has1 m) m.symbols τ.sim.t1 τ.c1 f1.0 z1.0;
        safe2 = bare_safe (has2 m) m.symbols τ.sim.t2 τ.c2 f1.1 z1.1;
      }

  back_cells : (b : Bool) (t u : Tape) (c d : List ℕ) → SameFirst u.len c d → b ≡ true → SameFirst (pick b u t).len c d
  unfolding pick
  back_cells true t u c d s e = s
  back_cells false t u c d s e = absurd (clash e refl)

  back_same : (x y : Conf) → Beside x y → SameLive m (back_of m σ x) (back_of m τ y)
  unfolding hand_back
  back_same x y b = record {
    value = λ i. hand_back m.tapes (a.value i) (record {
      state = b.state i;
      steps = b.steps i;
      t0 = b.alike0.numbers i;
      t1 = b.alike1.numbers i;
      t2 = b.alike2.numbers i;
    });
    length0 = b.alike0.room;
    length1 = b.alike1.room;
    length2 = b.alike2.room;
    cells0 = b.alike0.cells;
    cells1 = λ l. back_cells (has m 1) τ.sim.t1 y.sim.t1 x.c1 y.c1 b.alike1.cells (lt-ltb 1 m.tapes l);
    cells2 = λ l. back_cells (has m 2) τ.sim.t2 y.sim.t2 x.c2 y.c2 b.alike2.cells (lt-ltb 2 m.tapes l);
  }

  -- ---- the checks

  fits_alike : (k : ℕ) (g h : Held) → Alike g h → tape_fits k g.tape g.cells ≡ tape_fits k h.tape h.cells
  fits_alike k g h e = alike_reads (λ x. tape_fits k x.tape x.cells) g h e (fits_same h.tape g.cells h.cells e.cells k e.room)

  sim_fits_same : sim_fits m σ.sim σ.c0 σ.c1 σ.c2 ≡ sim_fits m τ.sim τ.c0 τ.c1 τ.c2
  unfolding sim_fits
  sim_fits_same = λ i. both (ltb (a.value i).state.0 m.states)
      (both (leb (a.value i).steps steps_most)
      (both (fits_alike m.symbols (tape0 σ) (tape0 τ) alive0 i)
      (both (if1 i) (if2 i))))
    where
      if1 : if_has (has1 m) (tape_fits m.symbols σ.sim.t1 σ.c1) ≡ if_has (has1 m) (tape_fits m.symbols τ.sim.t1 τ.c1)
      if1 = pick_two ◌≡◌ (has1 m) _ _ _ _ (λ h. fits_alike m.symbols (tape1 σ) (tape1 τ) (alive1 h)) (λ h. refl)

      if2 : if_has (has2 m) (tape_fits m.symbols σ.sim.t2 σ.c2) ≡ if_has (has2 m) (tape_fits m.symbols τ.sim.t2 τ.c2)
      if2 = pick_two ◌≡◌ (has2 m) _ _ _ _ (λ h. fits_alike m.symbols (tape2 σ) (tape2 τ) (alive2 h)) (λ h. refl)

  value_check_same : value_check m σ ≡ value_check m τ
  unfolding value_check
  value_check_same = λ i. demand (sizes_fit m (a.length0 i) (a.length1 i) (a.length2 i)) Why.BufferSize (demand (sim_fits_same i) Why.Misfit (Ok tt))

  pub engine_check_same : (s : List ℕ) → engine_check m s σ ≡ engine_check m s τ
  unfolding engine_check
  engine_check_same s = ap (checked_on (table_check m s)) value_check_same

  fuel_check_same : (fuel : ℕ) → fuel_check m fuel σ ≡ fuel_check m fuel τ
  unfolding fuel_check
  fuel_check_same fuel = λ i. checked_on (value_check_same i) (demand (fuel_fits (a.value i).steps fuel) Why.StepLimit (Ok tt))

  run_check_same : (s : List ℕ) (fuel : ℕ) → run_check m s fuel σ ≡ run_check m s fuel τ
  unfolding run_check
  run_check_same s fuel = ap (checked_on (table_check m s)) (fuel_check_same fuel)

  fast_check_same : (s words : List ℕ) (fuel : ℕ) → fast_check m s words fuel σ ≡ fast_check m s words fuel τ
  unfolding fast_check
  fast_check_same s words fuel = ap (λ x. checked_on (table_check m s) (demand (words_right m s words) Why.PackedWords x)) (fuel_check_same fuel)

  -- ---- the run, the fast run and the step

  answer_same : (s : List ℕ) (c : Result ⊤ Refusal) → (c ≡ Ok tt → Passed m s τ) → (p : Bool) (rule : Option State) (fuel : ℕ)
      → SameGiven m (answer_of c m s p rule fuel σ) (answer_of c m s p rule fuel τ)
  answer_same s (Err why) passed p rule fuel = record { answer = refl; at = a }
  answer_same s (Ok tt) passed p rule fuel =
      let e : SameEnd (run_of (task m s p rule) fuel (bare_of m σ)) (run_of (task m s p rule) fuel (bare_of m τ)) = run_beside (task m s p rule) fuel (bare_of m σ) (bare_of m τ) (bare_beside s (passed refl)) in
      record { answer = ap Ok e.outcome; at = back_same _ _ e.at }

  pub run_same : (s : List ℕ) (rule : Option State) (fuel : ℕ) → SameGiven m (run_answer m s rule fuel σ) (run_answer m s rule fuel τ)
  unfolding run_answer
  run_same s rule fuel = subst⁻¹ (λ c. SameGiven m (answer_of c m s true rule fuel σ) (run_answer m s rule fuel τ)) (run_check_same s fuel)
      (answer_same s (run_check m s fuel τ) (λ e. (run_says m s fuel τ e).0) true rule fuel)

  pub fast_same : (s words : List ℕ) (rule : Option State) (fuel : ℕ) → SameGiven m (fast_answer m s words rule fuel σ) (fast_answer m s words rule fuel τ)
  unfolding fast_answer
  fast_same s words rule fuel = subst⁻¹ (λ c. SameGiven m (answer_of c m s true rule fuel σ) (fast_answer m s words rule fuel τ)) (fast_check_same s words fuel)
      (answer_same s (fast_check m s words fuel τ) (λ e. (run_says m s fuel τ (sym (fast_runs m s words fuel τ _ refl e))).0) true rule fuel)

  pub step_same : (s : List ℕ) → SameStepGiven m (step_answer m s σ) (step_answer m s τ)
  unfolding step_answer
  step_same s = subst⁻¹ (λ c. SameStepGiven m (on c σ) (step_answer m s τ)) (run_check_same s 1) (by (run_check m s 1 τ) (λ e. (run_says m s 1 τ e).0))
    where
      on : Result ⊤ Refusal → Conf → StepGiven
      on c σ = step_on c σ (step_back m σ (once_of m s (bare_of m σ)))

      by : (c : Result ⊤ Refusal) → (c ≡ Ok tt → Passed m s τ) → SameStepGiven m (on c σ) (on c τ)
      by (Err why) passed = record { answer = refl; at = a }
      by (Ok tt) passed =
          let e : SameOnce (once_of m s (bare_of m σ)) (once_of m s (bare_of m τ)) = once_beside m s (bare_of m σ) (bare_of m τ) (bare_beside s (passed refl)) in
          record { answer = ap Ok e.status; at = back_same _ _ e.at }
