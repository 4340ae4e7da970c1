-- The operations' checks, one fact for each return, and what a passed check gives the run. Assumes nothing.
use Rattle.std.specs.Prelude.{◌≡◌, Bool, true, false, List, ℕ, ◌+◌, ◌≤◌, leb, length, Err, Ok, Result, ⊤}
use Rattle.std.proofs.Math.Path.{refl}
use Rattle.std.proofs.Common.{sym, ◌∙◌, leb-true}
use Rattle.notation.specs.Choice.{pick}
use Rattle.notation.proofs.Facts.Tests.{both_split}
use Rattle.notation.specs.Limits.{steps_most, cells_most}
use Rattle.symbol.specs.Kinds.{state_of}
use Rattle.outcome.specs.declared.Refusal.{Refusal}
use Rattle.outcome.specs.declared.Refusal.TheVariants as Why
use Rattle.machine.specs.declared.Machine.{Machine}
use Rattle.machine.specs.Layout.{stride_of}
use Rattle.machine.specs.Model.Check.{table_check}
use Rattle.machine.specs.Model.Packing.{word_at}
use Rattle.machine.proofs.Facts.Check.{demand_says, on_says, Ranges, ranges}
use Rattle.tape.specs.declared.Tape.{Tape}
use Rattle.tape.specs.Model.Moves.{held, no_tape, fresh_of}
use Rattle.tape.specs.Fits.{TapeSafe, tape_fits}
use Rattle.tape.proofs.Facts.Moves.{fits_safe, none_safe}
use Rattle.run_checks.proofs.Facts.SizesCases.{words_say, fuel_says}
pub use Rattle.run_checks.proofs.Facts.SizesCases.{FreshPassed, fresh_says}
use Rattle.sim_burst.specs.Model.Words.{WordsOk}
use Rattle.sim.specs.declared.Simulator.{Simulator}
use Rattle.sim.specs.Model.Engine.{Conf, conf}
use Rattle.sim.specs.Model.Turns.{LookOk, RunOk}
use Rattle.sim.specs.Model.Operations.{has1, has2, if_has, bare_sim, sizes_fit, sim_fits, value_check, engine_check, fuel_fits, fuel_check, run_check, words_right, fast_check, fresh_check, blank_tape, made, made_with, new_answer}

-- ---- the checks' returns

module _ (m : Machine) (s : List ℕ) (v : Simulator) (c0 c1 c2 : List ℕ) (r : Result ⊤ Refusal) (checked : r ≡ table_check m s) where
  pub engine_table : (why : Refusal) → r ≡ Err why → Err why ≡ engine_check m s (conf v c0 c1 c2)
  unfolding engine_check
  engine_table why e = rw (← checked, e)

  pub engine_value : (x : Result ⊤ Refusal) → r ≡ Ok tt → x ≡ value_check m (conf v c0 c1 c2) → x ≡ engine_check m s (conf v c0 c1 c2)
  unfolding engine_check
  engine_value x e p = rw (← checked, e) p

module _ (m : Machine) (fuel : ℕ) (v : Simulator) (c0 c1 c2 : List ℕ) (r : Result ⊤ Refusal) (checked : r ≡ value_check m (conf v c0 c1 c2)) where
  pub fuel_refused : (why : Refusal) → r ≡ Err why → Err why ≡ fuel_check m fuel (conf v c0 c1 c2)
  unfolding fuel_check
  fuel_refused why e = rw (← checked, e)

  module _ (passed : r ≡ Ok tt) (b : Bool) (limit : b ≡ fuel_fits v.steps fuel) where
    pub fuel_over : b ≡ false → Err Why.StepLimit ≡ fuel_check m fuel (conf v c0 c1 c2)
    unfolding fuel_check pick
    fuel_over e = rw (← checked, passed, ← limit, e)

    pub fuel_passed : b ≡ true → (Ok tt) ≡ fuel_check m fuel (conf v c0 c1 c2)
    unfolding fuel_check pick
    fuel_passed e = rw (← checked, passed, ← limit, e)

module _ (m : Machine) (s words : List ℕ) (fuel : ℕ) (v : Simulator) (c0 c1 c2 : List ℕ) (r : Result ⊤ Refusal) (checked : r ≡ table_check m s) where
  pub run_refused : (why : Refusal) → r ≡ Err why → Err why ≡ run_check m s fuel (conf v c0 c1 c2)
  unfolding run_check
  run_refused why e = rw (← checked, e)

  pub run_passed : (x : Result ⊤ Refusal) → r ≡ Ok tt → x ≡ fuel_check m fuel (conf v c0 c1 c2) → x ≡ run_check m s fuel (conf v c0 c1 c2)
  unfolding run_check
  run_passed x e p = rw (← checked, e) p

  pub fast_refused : (why : Refusal) → r ≡ Err why → Err why ≡ fast_check m s words fuel (conf v c0 c1 c2)
  unfolding fast_check
  fast_refused why e = rw (← checked, e)

  module _ (passed : r ≡ Ok tt) (b : Bool) (right : b ≡ words_right m s words) where
    pub fast_wrong : b ≡ false → Err Why.PackedWords ≡ fast_check m s words fuel (conf v c0 c1 c2)
    unfolding fast_check pick
    fast_wrong e = rw (← checked, passed, ← right, e)

    pub fast_passed : (x : Result ⊤ Refusal) → b ≡ true → x ≡ fuel_check m fuel (conf v c0 c1 c2) → x ≡ fast_check m s words fuel (conf v c0 c1 c2)
    unfolding fast_check pick
    fast_passed x e p = rw (← checked, passed, ← right, e) p

-- ---- what a passed check says

pub record Passed (m : Machine) (s : List ℕ) (σ : Conf) : Type 0 where
  pub table : table_check m s ≡ Ok tt
  pub sizes : sizes_fit m (length σ.c0) (length σ.c1) (length σ.c2) ≡ true
  pub fits : sim_fits m σ.sim σ.c0 σ.c1 σ.c2 ≡ true

value_says : (m : Machine) (s : List ℕ) (σ : Conf) → table_check m s ≡ Ok tt → value_check m σ ≡ Ok tt → Passed m s σ
unfolding value_check
value_says m s σ t e =
    let z = demand_says _ _ _ e in
    record { table = t; sizes = z.0; fits = (demand_says _ _ _ z.1).0 }

pub engine_says : (m : Machine) (s : List ℕ) (σ : Conf) → engine_check m s σ ≡ Ok tt → Passed m s σ
unfolding engine_check
engine_says m s σ e = let t = on_says _ _ e in value_says m s σ t.0 t.1

-- the passed check of the fast run: the run's check passes too, and the words are the table's
module _ (m : Machine) (s words : List ℕ) (fuel : ℕ) (σ : Conf) (r : Result ⊤ Refusal) (checked : r ≡ fast_check m s words fuel σ) (passed : r ≡ Ok tt) where
  parts : (table_check m s ≡ Ok tt) × (words_right m s words ≡ true) × (fuel_check m fuel σ ≡ Ok tt)
  unfolding fast_check
  parts =
      let t = on_says _ _ (sym checked ∙ passed) in
      let w = demand_says _ _ _ t.1 in
      (t.0, w.0, w.1)

  pub fast_right : words_right m s words ≡ true
  fast_right = parts.1

  pub fast_runs : (Ok tt) ≡ run_check m s fuel σ
  unfolding run_check
  fast_runs = rw (parts.0, parts.2)

  pub fast_words : WordsOk m s words
  unfolding word_at
  fast_words =
      let w = words_say m s words fast_right in
      record { checked = parts.0; one_tape_holds = w.0; count = w.1; holds = w.2 }

-- ---- what a passed check gives the run: the tapes are safe, and the step count stays within its limit

bare_safe : (has : Bool) (k : ℕ) (t : Tape) (c : List ℕ) → if_has has (tape_fits k t c) ≡ true → if_has has (leb (length c) cells_most) ≡ true → TapeSafe (pick has t no_tape) c
unfolding pick
bare_safe true k t c f z = fits_safe k t c f (leb-true _ _ z)
bare_safe false k t c f z = none_safe c

pub bare-look : (m : Machine) (s : List ℕ) (σ : Conf) (stride : ℕ) → Passed m s σ → stride ≡ stride_of m → stride ≤ 16777216
    → LookOk m stride (bare_sim m.tapes σ.sim) σ.c0 σ.c1 σ.c2
unfolding sizes_fit sim_fits bare_sim
bare-look m s σ stride p e l =
    let g : Ranges m s = ranges m s p.table in
    let z0 = both_split p.sizes in
    let z1 = both_split z0.1 in
    let f0 = both_split (both_split p.fits).1 in
    let f1 = both_split f0.1 in
    let f2 = both_split f1.1 in
    record {
      symbols_in = g.symbols_high;
      stride_is = e;
      stride_in = l;
      safe0 = fits_safe m.symbols σ.sim.t0 σ.c0 f1.0 (leb-true _ _ z0.0);
      safe1 = bare_safe (has1 m) m.symbols σ.sim.t1 σ.c1 f2.0 z1.0;
      safe2 = bare_safe (has2 m) m.symbols σ.sim.t2 σ.c2 f2.1 z1.1;
    }

pub run_says : (m : Machine) (s : List ℕ) (fuel : ℕ) (σ : Conf) → run_check m s fuel σ ≡ Ok tt → Passed m s σ × (σ.sim.steps + fuel ≤ steps_most)
unfolding run_check fuel_check
run_says m s fuel σ e =
    let t = on_says _ _ e in
    let u = on_says _ _ t.1 in
    (value_says m s σ t.0 u.0, fuel_says _ fuel (demand_says _ _ _ u.1).0)

pub run_ok : (m : Machine) (s : List ℕ) (fuel : ℕ) (v : Simulator) (c0 c1 c2 : List ℕ) (b : Simulator) (stride : ℕ)
    → run_check m s fuel (conf v c0 c1 c2) ≡ Ok tt → b ≡ bare_sim m.tapes v → stride ≡ stride_of m → stride ≤ 16777216
    → RunOk m stride b c0 c1 c2 fuel
unfolding bare_sim
run_ok m s fuel v c0 c1 c2 b stride e q k l =
    let p = run_says m s fuel (conf v c0 c1 c2) e in
    rw q (record { ok = bare-look m s (conf v c0 c1 c2) stride p.0 k l; steps_in = p.1 })

-- a checked machine has the numbers that `stride` requires
pub stride_ok : (m : Machine) (s : List ℕ) (fuel : ℕ) (σ : Conf) → run_check m s fuel σ ≡ Ok tt
    → (1 ≤ m.tapes) × (m.tapes ≤ 3) × (m.symbols ≤ 256)
stride_ok m s fuel σ e =
    let g = ranges m s (run_says m s fuel σ e).0.table in
    (g.tapes_low, g.tapes_high, g.symbols_high)

-- ---- a fresh engine

module _ (m : Machine) (s w c0 c1 c2 : List ℕ) (r : Result ⊤ Refusal) (checked : r ≡ fresh_check m s w (length c0) (length c1) (length c2)) where
  pub new_refused : (why : Refusal) → r ≡ Err why → made (Err why) c0 c1 c2 ≡ new_answer m s w c0 c1 c2
  unfolding new_answer
  new_refused why e = rw (← checked, e)

  pub new_made : (u0 u1 u2 : Tape) (d0 d1 d2 : List ℕ) → r ≡ Ok tt → held u0 d0 ≡ fresh_of w c0 → held u1 d1 ≡ blank_tape (has1 m) c1 → held u2 d2 ≡ blank_tape (has2 m) c2
      → made (Ok (record { state = state_of m.start; steps = 0; t0 = u0; t1 = u1; t2 = u2 })) d0 d1 d2 ≡ new_answer m s w c0 c1 c2
  unfolding new_answer
  new_made u0 u1 u2 d0 d1 d2 a p0 p1 p2 = (λ i. made_with m (p0 i) (p1 i) (p2 i)) ∙ rw (← checked, a) refl
