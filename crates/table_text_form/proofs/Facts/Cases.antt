-- The automaton, one fact for each way through the code. Assumes nothing.
use Rattle.std.specs.Prelude.{◌≡◌, Bool, true, false, ℕ, ◌+◌, ◌≤◌, ◌<◌, Err, None, Ok, Option, Result, Some}
use Rattle.std.proofs.Math.Path.{sym, ap}
use Rattle.std.proofs.Common.{◌∙◌, add-one}
use mathlib.Core.List.{List, ◌∷◌}
use native.Mathlib.Omega.{arith}
use Rattle.std.proofs.Math.ListN.{length, get_or, drop}
use Rattle.std.proofs.Math.Seq.{drop-cons, drop-length}
use Rattle.notation.specs.Choice.{pick}
use Rattle.notation.proofs.Facts.Tests.{pick_true, pick_false}
use Rattle.table_text_form.specs.declared.Spot.{Spot}
use Rattle.table_text_form.specs.Form.{width_of, step, ends, scan, first, form_of}

-- ---- the loop: the line from place i on, where x is the loop's result

pub scan_begins : (line : List ℕ) (s : Spot) → s ≡ first → scan (drop 0 line) s 0 ≡ form_of line
unfolding form_of
scan_begins line s e = ap (λ (t : Spot). scan line t 0) e

module _ (line : List ℕ) (s : Spot) (i : ℕ) (x : Result (ℕ × ℕ) ℕ) (left : scan (drop i line) s i ≡ x) where
  scan_at : i < length line → (elim (step s (get_or line i 0)) as (λ _. (Result (ℕ × ℕ) ℕ)) [ Some t ↦ scan (drop (i + 1) line) t (i + 1) | None ↦ Err i ]) ≡ x
  unfolding scan
  scan_at h =
      let e : drop i line ≡ get_or line i 0 ∷ drop (i + 1) line = drop-cons line i 0 h ∙ ap (λ (n : ℕ). get_or line i 0 ∷ drop n line) (sym (add-one i)) in
      sym (ap (λ (l : List ℕ). scan l s i) e) ∙ left

  pub scan_on : (n : Option Spot) (t : Spot) → i < length line → n ≡ step s (get_or line i 0) → n ≡ Some t → scan (drop (i + 1) line) t (i + 1) ≡ x
  scan_on n t h e f = ap (λ (y : Option Spot). elim y as (λ _. (Result (ℕ × ℕ) ℕ)) [ Some u ↦ scan (drop (i + 1) line) u (i + 1) | None ↦ Err i ]) (sym f ∙ e) ∙ scan_at h

  pub scan_stop : (n : Option Spot) → i < length line → n ≡ step s (get_or line i 0) → n ≡ None → Err i ≡ x
  scan_stop n h e f = ap (λ (y : Option Spot). elim y as (λ _. (Result (ℕ × ℕ) ℕ)) [ Some u ↦ scan (drop (i + 1) line) u (i + 1) | None ↦ Err i ]) (sym f ∙ e) ∙ scan_at h

  scan_over : i ≤ length line → length line ≤ i → pick (ends s) (Ok (s.rows + 1, width_of s)) (Err i) ≡ x
  unfolding scan
  scan_over g h =
      let e : i ≡ length line = omega arith in
      sym (ap (λ (l : List ℕ). scan l s i) (ap (λ (n : ℕ). drop n line) e ∙ drop-length line)) ∙ left

  pub scan_formed : (r : Bool) (w : ℕ) → i ≤ length line → length line ≤ i → r ≡ ends s → r ≡ true → w ≡ width_of s → Ok (s.rows + 1, w) ≡ x
  scan_formed r w g h e f p = rw p (sym (pick_true (ends s) _ _ (sym e ∙ f)) ∙ scan_over g h)

  pub scan_early : (r : Bool) → i ≤ length line → length line ≤ i → r ≡ ends s → r ≡ false → Err i ≡ x
  scan_early r g h e f = sym (pick_false (ends s) _ _ (sym e ∙ f)) ∙ scan_over g h
