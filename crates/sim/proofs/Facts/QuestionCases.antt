-- The tape questions, one fact for each return. The tape of a question is safe. Assumes nothing.
use Rattle.std.specs.Prelude.{◌≡◌, Bool, true, List, ℕ, zero, suc, ◌≤◌, ◌<◌, ltb, leb, ℤ, length, Err, Ok, Option, Result, ⊤}
use Rattle.std.proofs.Common.{sym, ap, ◌∙◌, arith}
use borrow.Author.Tests.{leb-true, lt-ltb, le-ltb, ltb-true}
use Rattle.notation.specs.Choice.{pick}
use Rattle.notation.proofs.Facts.Tests.{both_split, pick_true}
use Rattle.notation.specs.Limits.{cells_most}
use Rattle.symbol.specs.Kinds.{symbol_of}
use Rattle.symbol.specs.declared.Dir.{Dir}
use Rattle.outcome.specs.declared.Refusal.{Refusal}
use Rattle.outcome.specs.declared.Refusal.TheVariants as Why
use Rattle.machine.specs.declared.Machine.{Machine}
use Rattle.machine.proofs.Facts.Check.{demand_says, on_says, Ranges, ranges}
use Rattle.tape.specs.declared.Tape.{Tape}
use Rattle.tape.specs.declared.Span.{Span}
use Rattle.tape.specs.Model.Moves.{held}
use Rattle.tape.specs.Model.Questions.{cell_at, non_blank_of, count_of, window_of, find_of}
use Rattle.tape.specs.Fits.{TapeOk, TapeSafe, tape_fits}
use Rattle.tape.proofs.Facts.Moves.{fits_safe}
use Rattle.sim.specs.declared.Simulator.{Simulator}
use Rattle.sim.specs.Model.Engine.{Conf, conf}
use Rattle.sim.specs.Model.Operations.{if_has, sizes_fit, sim_fits, engine_check}
use Rattle.sim.proofs.Facts.OperationCases.{Passed, engine_says}
use Rattle.sim.specs.Model.Questions.{tape_at, cells_at, question_check, get_answer, extent_answer, count_answer, window_into, find_answer}

module _ (m : Machine) (s : List ℕ) (i : ℕ) (v : Simulator) (c0 c1 c2 : List ℕ) (r : Result ⊤ Refusal) (checked : r ≡ engine_check m s (conf v c0 c1 c2)) where
  pub question_refused : (why : Refusal) → r ≡ Err why → Err why ≡ question_check m s i (conf v c0 c1 c2)
  unfolding question_check
  question_refused why e = rw (← checked, e)

  module _ (passed : r ≡ Ok tt) where
    pub question_lacks : m.tapes ≤ i → Err Why.Misfit ≡ question_check m s i (conf v c0 c1 c2)
    unfolding question_check pick
    question_lacks h = rw (← checked, passed, le-ltb _ _ h)

    pub question_passed : i < m.tapes → (Ok tt) ≡ question_check m s i (conf v c0 c1 c2)
    unfolding question_check pick
    question_passed h = rw (← checked, passed, lt-ltb _ _ h)

-- ---- the tape of a question is safe

there : (has : Bool) (k : ℕ) (t : Tape) (c : List ℕ) → has ≡ true → if_has has (tape_fits k t c) ≡ true → if_has has (leb (length c) cells_most) ≡ true → TapeSafe t c
there has k t c h f z =
    fits_safe k t c (sym (pick_true has _ true h) ∙ f) (leb-true _ _ (sym (pick_true has (leb (length c) cells_most) true h) ∙ z))

safe_at : (m : Machine) (s : List ℕ) (σ : Conf) → Passed m s σ → (i : ℕ) → i < m.tapes → TapeSafe (tape_at i σ.sim) (cells_at i σ.c0 σ.c1 σ.c2)
unfolding sizes_fit sim_fits pick
safe_at m s σ p zero h = fits_safe m.symbols σ.sim.t0 σ.c0 (both_split (both_split (both_split p.fits).1).1).0 (leb-true _ _ (both_split p.sizes).0)
safe_at m s σ p (suc zero) h =
    there (ltb 1 m.tapes) m.symbols σ.sim.t1 σ.c1 (lt-ltb _ _ h) (both_split (both_split (both_split (both_split p.fits).1).1).1).0 (both_split (both_split p.sizes).1).0
safe_at m s σ p (suc (suc zero)) h =
    there (ltb 2 m.tapes) m.symbols σ.sim.t2 σ.c2 (lt-ltb _ _ h) (both_split (both_split (both_split (both_split p.fits).1).1).1).1 (both_split (both_split p.sizes).1).1
safe_at m s σ p (suc (suc (suc i))) h = let g : Ranges m s = ranges m s p.table in absurd (omega arith)

pub asked_ok : (m : Machine) (s : List ℕ) (i : ℕ) (v : Simulator) (c0 c1 c2 : List ℕ) (r : Result ⊤ Refusal) (t : Tape) (c : List ℕ)
    → r ≡ question_check m s i (conf v c0 c1 c2) → r ≡ Ok tt → t ≡ tape_at i v → c ≡ cells_at i c0 c1 c2 → TapeOk t c
unfolding question_check
asked_ok m s i v c0 c1 c2 r t c e a p q =
    let k = on_says _ _ (sym e ∙ a) in
    let l = demand_says _ _ _ k.1 in
    let g = safe_at m s (conf v c0 c1 c2) (engine_says m s (conf v c0 c1 c2) k.0) i (ltb-true _ _ l.0) in
    rw (p, q) g.ok

-- ---- the answers

module _ (m : Machine) (s : List ℕ) (i : ℕ) (v : Simulator) (c0 c1 c2 : List ℕ) (r : Result ⊤ Refusal) (checked : r ≡ question_check m s i (conf v c0 c1 c2)) where
  pub get_refused : (z : ℤ) (why : Refusal) → r ≡ Err why → Err why ≡ get_answer m s i z (conf v c0 c1 c2)
  unfolding get_answer
  get_refused z why e = rw (← checked, e)

  pub extent_refused : (why : Refusal) → r ≡ Err why → Err why ≡ extent_answer m s i (conf v c0 c1 c2)
  unfolding extent_answer
  extent_refused why e = rw (← checked, e)

  pub count_refused : (why : Refusal) → r ≡ Err why → Err why ≡ count_answer m s i (conf v c0 c1 c2)
  unfolding count_answer
  count_refused why e = rw (← checked, e)

  pub window_refused : (z : ℤ) (out : List ℕ) (why : Refusal) → r ≡ Err why → out ≡ window_into m s i z (conf v c0 c1 c2) out
  unfolding window_into
  window_refused z out why e = rw (← checked, e)

  pub find_refused : (z : ℤ) (d : Dir) (why : Refusal) → r ≡ Err why → Err why ≡ find_answer m s i z d (conf v c0 c1 c2)
  unfolding find_answer
  find_refused z d why e = rw (← checked, e)

  module _ (passed : r ≡ Ok tt) (t : Tape) (c : List ℕ) (p : t ≡ tape_at i v) (q : c ≡ cells_at i c0 c1 c2) where
    pub get_done : (y z : ℤ) (x : ℕ) → x ≡ cell_at t.origin t.len c y → y ≡ z → Ok (symbol_of x) ≡ get_answer m s i z (conf v c0 c1 c2)
    unfolding get_answer
    get_done y z x e k = rw (← checked, passed, ← p, ← q, ← k) (ap (λ (n : ℕ). Ok (symbol_of n)) e)

    pub extent_done : (x : Option Span) → x ≡ non_blank_of (held t c) → Ok x ≡ extent_answer m s i (conf v c0 c1 c2)
    unfolding extent_answer
    extent_done x e = rw (← checked, passed, ← p, ← q) (ap Ok e)

    pub count_done : (x : ℕ) → x ≡ count_of (held t c) → Ok x ≡ count_answer m s i (conf v c0 c1 c2)
    unfolding count_answer
    count_done x e = rw (← checked, passed, ← p, ← q) (ap Ok e)

    pub window_done : (y z : ℤ) (out out₁ : List ℕ) → out₁ ≡ window_of (held t c) y out → y ≡ z → out₁ ≡ window_into m s i z (conf v c0 c1 c2) out
    unfolding window_into
    window_done y z out out₁ e k = rw (← checked, passed, ← p, ← q, ← k) e

    pub find_done : (y z : ℤ) (d : Dir) (x : Option ℤ) → x ≡ find_of (held t c) y d → y ≡ z → Ok x ≡ find_answer m s i z d (conf v c0 c1 c2)
    unfolding find_answer
    find_done y z d x e k = rw (← checked, passed, ← p, ← q, ← k) (ap Ok e)
