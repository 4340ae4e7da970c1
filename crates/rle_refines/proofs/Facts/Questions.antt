-- The answers to the questions on the run-length engine's tape are what the table machine's tape holds, at every position. Assumes nothing.
use Rattle.outcome.specs.declared.Refusal.{Refusal}
use Rattle.std.specs.Prelude.{◌≡◌, refl, ◌↔◌, List, ℕ, suc, ◌+◌, ◌≤◌, ◌<◌, ◌^◌, ltb, ℤ, negsuc, ◌+ℤ◌, length, get_or, Err, Ok, Result, ⊤, None, Option}
use Rattle.std.proofs.Math.Path.{sym, ap}
use Rattle.std.proofs.Common.{◌∙◌, arith}
use borrow.Author.Tests.{ltb-false}
use Rattle.std.proofs.Math.IntN.{pos}
use Rattle.notation.proofs.Facts.Fill.{length_fill, fill_in}
use Rattle.notation.specs.Position.{◌⊖◌, up, dn}
use Rattle.notation.proofs.Facts.Position.{ints, diff-⊖}
use Rattle.notation.proofs.Facts.Tests.{pick_cases}
use Rattle.symbol.specs.Model.{raised_of}
use Rattle.symbol.specs.declared.Symbol.{Symbol}
use Rattle.machine.specs.declared.Machine.{Machine}
use Rattle.tape.specs.declared.Span.{Span}
use Rattle.tape.specs.Answers.{Spans, no_cells, range}
use Rattle.run_rules.specs.Model.Answers.{asked_on}
use Rattle.rle.specs.Model.Engine.{Conf, right_of}
use Rattle.rle.specs.Fits.{engine_check}
use Rattle.rle.specs.Model.Questions.{raised_cell, window_cell, window_from, window_on, window_all, blank_tape, span_of, get_answer, extent_answer, count_answer, window_into}
use Rattle.rle_refines.specs.Meaning.{tape_of, ChainFits}
use Rattle.rle_refines.proofs.Facts.Cells.{here, leftward, rightward, SeenAt, seen, side_past, cell_is, raised_is}
use Rattle.rle_refines.proofs.Facts.NonBlank.{all_blank}
use Rattle.rle_refines.proofs.Facts.NonBlankEnds.{lowest_is, highest_is}
use Rattle.rle_refines.proofs.Facts.Counts.{CountedOn, count_within}
use Rattle.rle_refines.proofs.Facts.Operations.{engine_says}

-- a cell by its raised position: `cell_is` in Facts/Cells

-- ---- the window

diff-+pos : (z : ℤ) (j : ℕ) → up (z +ℤ pos j) + dn z ≡ up z + j + dn (z +ℤ pos j)
unfolding ◌⊖◌
diff-+pos (pos a) j = omega arith
diff-+pos (negsuc a) j = omega (arith, diff-⊖ j (suc a))

pub window_length : (σ : Conf) (z : ℤ) (out : List ℕ) → length (window_from σ (raised_of z) out) ≡ length out
unfolding window_from window_all window_cell
window_length σ z out = length_fill (window_cell σ (raised_of z)) (length out) 0 out

module _ (m : Machine) (σ : Conf) (f : ChainFits m σ) (z : ℤ) (out : List ℕ) where
  -- past i64 all cells are blank: no engine that fits has runs there
  far_blank : (y : ℤ) → 2 ^ 63 + dn y ≤ up y → (tape_of σ).cell y ≡ 0
  far_blank y h = by (seen σ y)
    where
      by : {x : ℕ} → SeenAt σ y x → x ≡ 0
      by (here e) = absurd (omega (arith, f.head_high, f.high_near, f.steps_in))
      by (leftward d e) = absurd (omega (arith, f.head_high, f.high_near, f.steps_in))
      by (rightward d e) = side_past (right_of σ) d (omega (arith, f.right_far, f.steps_in))

  -- place j holds the cell at z + j
  pub window_is : dn z ≤ 2 ^ 63 → (j : ℕ) → j < length out → get_or (window_from σ (raised_of z) out) j 0 ≡ (tape_of σ).cell (z +ℤ pos j)
  unfolding window_from window_all window_cell window_on raised_cell
  window_is low j there =
      fill_in (window_cell σ (raised_of z)) (length out) 0 out j 0 (omega arith) (omega arith) there
      ∙ pick_cases (ltb (raised_of z + j) (2 ^ 64)) _ 0 (λ x. x ≡ (tape_of σ).cell (z +ℤ pos j))
      (λ t. let e : (raised_of z + j) ⊖ 2 ^ 63 ≡ z +ℤ pos j = omega (ints, diff-⊖ (raised_of z + j) (2 ^ 63), diff-+pos z j) in
      cell_is σ (raised_of z + j) ∙ ap (λ y. (tape_of σ).cell y) e)
      (λ t. sym (far_blank (z +ℤ pos j) (omega (arith, ltb-false (raised_of z + j) (2 ^ 64) t, diff-+pos z j))))

-- ---- the range of the non-blank cells: empty exactly where all are blank, else the lowest and the highest

module _ (m : Machine) (σ : Conf) (f : ChainFits m σ) where
  pub non_blank_is : Spans (tape_of σ).cell (span_of σ)
  unfolding span_of
  non_blank_is = pick_cases (blank_tape σ) None _ (Spans (tape_of σ).cell) (λ t. no_cells (all_blank m σ f t))
      (λ t. let a = lowest_is m σ f t in let b = highest_is m σ f t in range _ _ a.written b.written a.beyond b.beyond)

  pub non_blank_exact : (span_of σ ≡ None) ↔ ((y : ℤ) → (tape_of σ).cell y ≡ 0)
  non_blank_exact = (λ e. says (rw e at non_blank_is), λ r. holds r non_blank_is)
    where
      says : Spans (tape_of σ).cell None → (y : ℤ) → (tape_of σ).cell y ≡ 0
      says (no_cells r) = r

      holds : ((y : ℤ) → (tape_of σ).cell y ≡ 0) → {x : Option Span} → Spans (tape_of σ).cell x → x ≡ None
      holds r (no_cells q) = refl
      holds r (range a b v w p q) = absurd (v (r a))

-- ---- the operations' answers

found_got : (c : Result ⊤ Refusal) (y x : Symbol) → asked_on c Err (Ok y) ≡ Ok x → (c ≡ Ok tt) × (y ≡ x)
found_got (Err why) y x e = let z : ◌≡◌ {A = ℕ} 0 1 = cc in absurd (omega arith)
found_got (Ok tt) y x e = (refl, cc)

found_extent : (c : Result ⊤ Refusal) (y x : Option Span) → asked_on c Err (Ok y) ≡ Ok x → (c ≡ Ok tt) × (y ≡ x)
found_extent (Err why) y x e = let z : ◌≡◌ {A = ℕ} 0 1 = cc in absurd (omega arith)
found_extent (Ok tt) y x e = (refl, cc)

found_counted : (c : Result ⊤ Refusal) (y x : ℕ) → asked_on c Err (Ok y) ≡ Ok x → (c ≡ Ok tt) × (y ≡ x)
found_counted (Err why) y x e = let z : ◌≡◌ {A = ℕ} 0 1 = cc in absurd (omega arith)
found_counted (Ok tt) y x e = (refl, cc)

module _ (m : Machine) (s : List ℕ) (σ : Conf) where
  pub get_is : (z : ℤ) → dn z ≤ 2 ^ 63 → (x : Symbol) → get_answer m s z σ ≡ Ok x → x.0 ≡ (tape_of σ).cell z
  unfolding get_answer
  get_is z low x e = sym (ap (λ (y : Symbol). y.0) (found_got (engine_check m s σ) _ _ e).1) ∙ raised_is σ z low

  pub extent_is : (x : Option Span) → extent_answer m s σ ≡ Ok x → Spans (tape_of σ).cell x
  unfolding extent_answer
  extent_is x e =
      let p = found_extent (engine_check m s σ) _ _ e in
      rw (← p.1) (non_blank_is m σ (engine_says m s σ p.0).fits)

  pub counted_is : (n : ℕ) → count_answer m s σ ≡ Ok n → CountedOn σ n
  unfolding count_answer
  counted_is n e =
      let p = found_counted (engine_check m s σ) _ _ e in
      rw (← p.1) (count_within m σ (engine_says m s σ p.0).fits)

  -- the whole slice is filled
  pub window_into_holds : engine_check m s σ ≡ Ok tt → (z : ℤ) → dn z ≤ 2 ^ 63 → (out : List ℕ)
      → (length (window_into m s z σ out) ≡ length out) × ((j : ℕ) → j < length out → get_or (window_into m s z σ out) j 0 ≡ (tape_of σ).cell (z +ℤ pos j))
  unfolding window_into
  window_into_holds c z low out =
      let f : ChainFits m σ = (engine_says m s σ c).fits in
      rw c (window_length σ z out, window_is m σ f z out low)
