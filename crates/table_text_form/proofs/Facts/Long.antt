-- A line over 774 bytes is malformed, and its first 775 bytes say where. Assumes nothing.
use Rattle.std.specs.Prelude.{◌≡◌, refl, List, ◌++◌, ℕ, suc, ◌+◌, ◌*◌, ◌≤◌, length, take, Err, Ok, Result}
use Rattle.std.proofs.Common.{sym, ap, subst, ◌∙◌, mul-le-mul, arith, length-append, length-take-le, take-take}
use Rattle.table_text_form.specs.Form.{form_of}
use Rattle.table_text_form.proofs.Facts.Columns.{formed_of_form}
use Rattle.table_text_form.specs.Line.{IsLine, MalformedAt}
use Rattle.table_text_form.proofs.Facts.Place.{place_right, malformed_form}

-- 25 rows of 10 entries
pub line_length_lem : (line : List ℕ) → IsLine line → length line ≤ 774
line_length_lem line (rows, k, f) =
    let e = f.size in
    let h = f.symbols_are.1 in
    let l : rows * (3 * k + 1) ≤ 25 * 31 = mul-le-mul {n₂ = 25} {m₂ = 31} f.rows_are.1 (omega arith) in
    omega arith

module _ (a b : List ℕ) (long-a : 775 ≤ length a) (long_b : 775 ≤ length b) (same : take 775 a ≡ take 775 b) where
  same_start : (n : ℕ) → n ≤ 775 → take n a ≡ take n b
  same_start n h = sym (take-take n 775 a h) ∙ ap (take n) same ∙ take-take n 775 b h

  place_in : (i : ℕ) → MalformedAt a i → i ≤ 774
  place_in i m =
      let x = m.before in
      let l = line_length_lem (take i a ++ x.0) x.1 in
      let e : length (take i a ++ x.0) ≡ length (take i a) + length x.0 = length-append (take i a) x.0 in
      let t = length-take-le i a m.inside in
      omega arith

  also : (i : ℕ) → MalformedAt a i → MalformedAt b i
  also i m =
      let h = place_in i m in
      record {
        inside = omega arith;
        before = (m.before.0, subst (λ (l : List ℕ). IsLine (l ++ m.before.0)) (same_start i (omega arith)) m.before.1);
        after = λ l rest t. m.after (omega arith) rest (subst (λ (x : List ℕ). IsLine (x ++ rest)) (sym (same_start (suc i) (omega arith))) t);
        early = λ t. let l = line_length_lem b t in omega arith;
      }

  pub malformed_alike : (i : ℕ) × (form_of a ≡ Err i) × (form_of b ≡ Err i)
  malformed_alike = by (form_of a) refl
    where
      by : (x : Result (ℕ × ℕ) ℕ) → form_of a ≡ x → (i : ℕ) × (form_of a ≡ Err i) × (form_of b ≡ Err i)
      by (Ok (rows, k)) e = let l = line_length_lem a (rows, k, formed_of_form a rows k e) in absurd (omega arith)
      by (Err i) e = (i, e, malformed_form b i (also i (place_right a i e)))
