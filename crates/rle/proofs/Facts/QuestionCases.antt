-- The questions' answers, a lemma for each return. Assumes nothing.
use Rattle.std.specs.Prelude.{◌≡◌, Bool, true, false, List, ℕ, ◌+◌, ◌-◌, ◌≤◌, ◌<◌, min, eqb, ℤ, Err, Ok, Result, ⊤, None, Option, Some}
use Rattle.std.proofs.Math.Path.{sym, ap}
use Rattle.std.proofs.Common.{◌∙◌, arith}
use borrow.Author.Tests.{leb-true, eq-eqb, ne_eqb}
use Rattle.notation.specs.Choice.{pick, both}
use Rattle.notation.specs.Position.{◌⊖◌}
use Rattle.notation.proofs.Facts.Tests.{both_split, both_true, clash}
use Rattle.notation.specs.Limits.{slack, raised_zero}
use Rattle.symbol.specs.Kinds.{symbol_of}
use Rattle.symbol.specs.Model.{raised_of}
use Rattle.outcome.specs.declared.Refusal.{Refusal}
use Rattle.machine.specs.declared.Machine.{Machine}
use Rattle.tape.specs.declared.Span.{Span}
use Rattle.tape.specs.Model.Questions.{span}
use Rattle.rle_stack.specs.Model.{cells_of, near_of}
use Rattle.rle.specs.declared.ChainSim.{ChainSim}
use Rattle.rle.specs.Model.Engine.{Conf, conf, left_of, right_of}
use Rattle.rle.specs.Invariants.{AskOk}
use Rattle.rle.specs.Fits.{reach_fits, chain_fits, engine_check}
use Rattle.rle.proofs.Facts.OperationCases.{Passed, engine_says, sides_ok, counts_ok, steps_ok}
use Rattle.rle_macro.specs.declared.inner.questions.Tape.{Tape}
use Rattle.rle_macro.specs.Model.Questions.{cell_on, window_all, count_on}
use Rattle.rle.specs.Model.Questions.{read_of, raised_cell, window_from, lowest_of, highest_of, blank_tape, span_of, count_of, get_answer, extent_answer, count_answer, window_into}

-- ---- the tape

module _ (v : ChainSim) (ls ll rs rl : List ℕ) where
  abbrev at : Conf
  at = conf v ls ll rs rl

  pub blank_cur : (v.tape.cur ≡ 0 → ⊥) → false ≡ blank_tape at
  unfolding blank_tape both
  blank_cur h = rw (ne_eqb v.tape.cur 0 h)

  pub blank_left : v.tape.cur ≡ 0 → (v.tape.left ≡ 0 → ⊥) → false ≡ blank_tape at
  unfolding blank_tape both
  blank_left e h = rw (eq-eqb v.tape.cur 0 e, ne_eqb v.tape.left 0 h)

  pub blank_right : v.tape.cur ≡ 0 → v.tape.left ≡ 0 → eqb v.tape.right 0 ≡ blank_tape at
  unfolding blank_tape both
  blank_right e h = rw (eq-eqb v.tape.cur 0 e, eq-eqb v.tape.left 0 h)

-- where some cell is not blank, the head's cell is blank and the left side has no runs, the right side has runs
some_right : (σ : Conf) → blank_tape σ ≡ false → σ.sim.tape.cur ≡ 0 → σ.sim.tape.left ≡ 0 → σ.sim.tape.right ≡ 0 → ⊥
unfolding blank_tape
some_right σ h c l r = clash (both_true (eq-eqb _ 0 c) (both_true (eq-eqb _ 0 l) (eq-eqb _ 0 r))) h

module _ (σ : Conf) (ok : AskOk σ) (some : blank_tape σ ≡ false) where
  -- the cells counted on a side are all its cells
  pub left_sum : (n : ℕ) → n ≡ min (cells_of (left_of σ)) (σ.sim.steps + slack + 1) → (n ≡ cells_of (left_of σ)) × (n ≤ σ.sim.tape.head)
  left_sum n e = (omega (arith, e, ok.sides.left.cells_in), omega (arith, e, ok.sides.left.cells_in, ok.counts.steps_in, ok.left_far))

  right_sum : (n : ℕ) → n ≡ min (cells_of (right_of σ)) (σ.sim.steps + slack + 1) → n ≡ cells_of (right_of σ)
  right_sum n e = omega (arith, e, ok.sides.right.cells_in)

  pub lowest_left : (σ.sim.tape.left ≡ 0 → ⊥) → (n : ℕ) → n ≡ min (cells_of (left_of σ)) (σ.sim.steps + slack + 1) → σ.sim.tape.head - n ≡ lowest_of σ
  unfolding lowest_of pick
  lowest_left h n e = ap (λ (x : ℕ). σ.sim.tape.head - x) (left_sum n e).0 ∙ sym (rw (ne_eqb σ.sim.tape.left 0 h))

  pub lowest_head : σ.sim.tape.left ≡ 0 → (σ.sim.tape.cur ≡ 0 → ⊥) → σ.sim.tape.head ≡ lowest_of σ
  unfolding lowest_of pick
  lowest_head h k = rw (eq-eqb σ.sim.tape.left 0 h, ne_eqb σ.sim.tape.cur 0 k)

  pub lowest_right : σ.sim.tape.left ≡ 0 → σ.sim.tape.cur ≡ 0 → (n : ℕ) → n ≡ near_of (right_of σ) → σ.sim.tape.head + n ≡ lowest_of σ
  unfolding lowest_of pick
  lowest_right h k n e = ap (λ (x : ℕ). σ.sim.tape.head + x) e ∙ sym (rw (eq-eqb σ.sim.tape.left 0 h, eq-eqb σ.sim.tape.cur 0 k))

  pub some_on_right : σ.sim.tape.left ≡ 0 → σ.sim.tape.cur ≡ 0 → 0 < σ.sim.tape.right
  some_on_right h k = omega (arith, some_right σ some k h)

  pub highest_right : (σ.sim.tape.right ≡ 0 → ⊥) → (n : ℕ) → n ≡ min (cells_of (right_of σ)) (σ.sim.steps + slack + 1) → σ.sim.tape.head + n ≡ highest_of σ
  unfolding highest_of pick
  highest_right h n e = ap (λ (x : ℕ). σ.sim.tape.head + x) (right_sum n e) ∙ sym (rw (ne_eqb σ.sim.tape.right 0 h))

  pub highest_head : σ.sim.tape.right ≡ 0 → (σ.sim.tape.cur ≡ 0 → ⊥) → σ.sim.tape.head ≡ highest_of σ
  unfolding highest_of pick
  highest_head h k = rw (eq-eqb σ.sim.tape.right 0 h, ne_eqb σ.sim.tape.cur 0 k)

  pub highest_left : σ.sim.tape.right ≡ 0 → σ.sim.tape.cur ≡ 0 → (n : ℕ) → n ≡ near_of (left_of σ) → σ.sim.tape.head - n ≡ highest_of σ
  unfolding highest_of pick
  highest_left h k n e = ap (λ (x : ℕ). σ.sim.tape.head - x) e ∙ sym (rw (eq-eqb σ.sim.tape.right 0 h, eq-eqb σ.sim.tape.cur 0 k))

  pub some_on_left : σ.sim.tape.right ≡ 0 → σ.sim.tape.cur ≡ 0 → 0 < σ.sim.tape.left
  some_on_left h k =
      let n : σ.sim.tape.left ≡ 0 → ⊥ = λ l. some_right σ some k l h in
      omega arith

pub span_empty : (σ : Conf) (b : Bool) → b ≡ blank_tape σ → b ≡ true → None ≡ span_of σ
unfolding span_of pick
span_empty σ b p e = rw (← p, e)

pub span_cells : (σ : Conf) (b : Bool) → b ≡ blank_tape σ → b ≡ false → (l h : ℕ) (x y : ℤ) → l ≡ lowest_of σ → h ≡ highest_of σ → x ≡ l ⊖ raised_zero → y ≡ h ⊖ raised_zero → Some (span x y) ≡ span_of σ
unfolding span_of pick
span_cells σ b p e l h x y el eh ex ey = (λ i. Some (span ((ex ∙ ap (λ (n : ℕ). n ⊖ raised_zero) el) i) ((ey ∙ ap (λ (n : ℕ). n ⊖ raised_zero) eh) i))) ∙ sym (rw (← p, e))

-- ---- the operations

module _ (m : Machine) (s : List ℕ) (σ : Conf) (r : Result ⊤ Refusal) (checked : r ≡ engine_check m s σ) where
  pub get_refused : (z : ℤ) (why : Refusal) → r ≡ Err why → Err why ≡ get_answer m s z σ
  unfolding get_answer
  get_refused z why e = rw (← checked, e)

  pub extent_refused : (why : Refusal) → r ≡ Err why → Err why ≡ extent_answer m s σ
  unfolding extent_answer
  extent_refused why e = rw (← checked, e)

  pub count_refused : (why : Refusal) → r ≡ Err why → Err why ≡ count_answer m s σ
  unfolding count_answer
  count_refused why e = rw (← checked, e)

  pub window_refused : (z : ℤ) (out : List ℕ) (why : Refusal) → r ≡ Err why → out ≡ window_into m s z σ out
  unfolding window_into
  window_refused z out why e = rw (← checked, e)

  module _ (passed : r ≡ Ok tt) where
    reach : Passed m s σ → reach_fits σ.sim (cells_of (left_of σ)) (cells_of (right_of σ)) ≡ true
    unfolding chain_fits
    reach p = (both_split (both_split (both_split (both_split p.fits).1).1).1).1

    pub asked_ok : AskOk σ
    unfolding reach_fits
    asked_ok =
        let p : Passed m s σ = engine_says m s σ (sym checked ∙ passed) in
        record {
          sides = sides_ok m σ p.fits;
          counts = counts_ok m σ 0 p.fits (omega (arith, steps_ok m σ p.fits));
          left_far = leb-true (raised_zero + cells_of (left_of σ)) (σ.sim.tape.head + σ.sim.steps + slack) (both_split (reach p)).0;
          right_far = leb-true (σ.sim.tape.head + cells_of (right_of σ)) (raised_zero + σ.sim.steps + slack) (both_split (reach p)).1;
        }

    pub asked_sums : (t : Tape) → t ≡ read_of σ → (cells_of t.left < raised_zero - 1) × (cells_of t.right < raised_zero - 1)
    asked_sums t e = (
      omega (arith, ap (λ (t : Tape). cells_of t.left) e, asked_ok.sides.left.cells_in, asked_ok.counts.steps_in),
      omega (arith, ap (λ (t : Tape). cells_of t.right) e, asked_ok.sides.right.cells_in, asked_ok.counts.steps_in),
    )

    pub get_done : (t : Tape) → t ≡ read_of σ → (y z : ℤ) (p x : ℕ) → p ≡ raised_of y → y ≡ z → x ≡ cell_on t.head t.cur t.left t.right p → Ok (symbol_of x) ≡ get_answer m s z σ
    unfolding get_answer raised_cell
    get_done t q y z p x e k h = (λ i. Ok (symbol_of ((h ∙ ap (λ (t : Tape). cell_on t.head t.cur t.left t.right p) q ∙ ap (raised_cell σ) (e ∙ ap raised_of k)) i))) ∙ sym (rw (← checked, passed))

    pub extent_done : (x : Option Span) → x ≡ span_of σ → Ok x ≡ extent_answer m s σ
    unfolding extent_answer
    extent_done x e = ap Ok e ∙ sym (rw (← checked, passed))

    pub count_done : (t : Tape) → t ≡ read_of σ → (x : ℕ) → x ≡ count_on t.cur t.left t.right → Ok x ≡ count_answer m s σ
    unfolding count_answer count_of
    count_done t q x e = ap Ok (e ∙ ap (λ (t : Tape). count_on t.cur t.left t.right) q) ∙ sym (rw (← checked, passed))

    pub window_done : (t : Tape) → t ≡ read_of σ → (y z : ℤ) (p : ℕ) (out out₁ : List ℕ) → p ≡ raised_of y → y ≡ z → out₁ ≡ window_all t.head t.cur t.left t.right p out → out₁ ≡ window_into m s z σ out
    unfolding window_into window_from
    window_done t q y z p out out₁ e k h = h ∙ ap (λ (t : Tape). window_all t.head t.cur t.left t.right p out) q ∙ ap (λ (n : ℕ). window_from σ n out) (e ∙ ap raised_of k) ∙ sym (rw (← checked, passed))
