-- What the listing printed into an output that is long enough: the answer, at its start. Assumes nothing.
use Rattle.std.specs.Prelude.{ℕ, ◌≡◌, ◌≤◌, List, ◌++◌, length, take, drop, Err, Ok, Result}
use Rattle.std.proofs.Common.{refl, sym, ap, ◌∙◌, arith, le-ltb}
use Rattle.std.proofs.Math.Seq.{take-append_seam}
use Rattle.notation.specs.Choice.{pick}
use Rattle.outcome.specs.declared.Refusal.{Refusal}
use Rattle.listing.specs.Output.{output_most, answer_to, list_of}

module _ (input out out' : List ℕ) (r : Result ℕ Refusal) (says : (r, out') ≡ list_of input out) (long : output_most ≤ length out) where
  abbrev rest : List ℕ
  rest = drop (length (answer_to input)) out

  all_printed : list_of input out ≡ (Ok (length (answer_to input)), answer_to input ++ rest)
  unfolding list_of pick
  all_printed = rw (le-ltb (length out) output_most long) refl

  result_is : r ≡ Ok (length (answer_to input))
  result_is = ap (λ y. y.0) (says ∙ all_printed)

  output_is : out' ≡ answer_to input ++ rest
  output_is = ap (λ y. y.1) (says ∙ all_printed)

  count_is : (m : ℕ) → ◌≡◌ {A = Result ℕ Refusal} (Ok m) (Ok (length (answer_to input))) → m ≡ length (answer_to input)
  count_is m q = cc

  pub printed : (m : ℕ) → r ≡ Ok m → take m out' ≡ answer_to input
  printed m z =
      let k : m ≡ length (answer_to input) = count_is m (sym z ∙ result_is) in
      (λ i. take (k i) (output_is i)) ∙ take-append_seam (answer_to input) rest

  refused_no : (why : Refusal) → ◌≡◌ {A = Result ℕ Refusal} (Err why) (Ok (length (answer_to input))) → ⊥
  refused_no why q = let z : ◌≡◌ {A = ℕ} 0 1 = cc in absurd (omega arith)

  pub not_refused : (why : Refusal) → r ≡ Err why → ⊥
  not_refused why z = refused_no why (sym z ∙ result_is)
