-- The bytes that are read of the input are enough. Assumes nothing.
use Rattle.machine.specs.declared.Machine.{Machine}
use Rattle.outcome.specs.declared.Refusal.{Refusal}
use Rattle.std.specs.Prelude.{◌≡◌, List, ℕ, ◌+◌, ◌-◌, ◌≤◌, ◌<◌, eqb, leb, length, get_or, take, Err, Result}
use Rattle.std.proofs.Common.{sym, ap, ◌∙◌, arith, leb-true, leb-false, length-take-le, take_all, take-take}
use Rattle.notation.proofs.Facts.Tests.{by_test, pick_cases}
use Rattle.outcome.specs.declared.Refusal.TheVariants as Why
use Rattle.table_text_form.specs.Form.{form_of}
use Rattle.table_text_form.proofs.Facts.Long.{malformed_alike}
use Rattle.table_text_reader.specs.Reading.{read_into}
use Rattle.table_text_reader.proofs.Facts.ReadCases.{answer_malformed}
use Rattle.line_to_listing.specs.Output.{line_length, line_in, refused_text, answer_for, blank_table, answer_to}

-- the line has all bytes of the input, or all but one
length_in : (s : List ℕ) → (length s ≤ line_length s + 1) × (line_length s ≤ length s)
unfolding line_length
length_in s = pick_cases (eqb (get_or s (length s - 1) 0) 10) (length s - 1) (length s) (λ n. (length s ≤ n + 1) × (n ≤ length s))
    (λ e. (omega arith, omega arith)) (λ e. (omega arith, omega arith))

line_is : (s : List ℕ) → length (line_in s) ≡ line_length s
line_is s = length-take-le (line_length s) s (length_in s).1

start_is : (s : List ℕ) → 776 ≤ length s → take 775 (line_in s) ≡ take 775 s
start_is s h = take-take 775 (line_length s) s (omega (arith, (length_in s).0))

malformed_answer : (s : List ℕ) (i : ℕ) → form_of (line_in s) ≡ Err i → answer_to s ≡ refused_text (Why.MalformedLine i)
unfolding answer_to
malformed_answer s i e = ap (λ (r : Result Machine Refusal). answer_for r (read_into (line_in s) blank_table)) (answer_malformed (line_in s) 2080 i e)

-- the first 65,536 bytes of an input have the same answer as the whole input
pub answer_first : (input : List ℕ) → answer_to (take 65536 input) ≡ answer_to input
answer_first input = by_test (leb (length input) 65536)
    (λ t. ap answer_to (take_all 65536 input (leb-true _ _ t)))
    (λ t. long (leb-false _ _ t))
  where
    cut : List ℕ
    cut = take 65536 input

    long : 65536 < length input → answer_to cut ≡ answer_to input
    long h =
        let n : length cut ≡ 65536 = length-take-le 65536 input (omega arith) in
        let a : 775 ≤ length (line_in cut) = omega (arith, line_is cut, (length_in cut).0) in
        let b : 775 ≤ length (line_in input) = omega (arith, line_is input, (length_in input).0) in
        let same : take 775 (line_in cut) ≡ take 775 (line_in input) = start_is cut (omega arith) ∙ take-take 775 65536 input (omega arith) ∙ sym (start_is input (omega arith)) in
        let (i, p, q) = malformed_alike (line_in cut) (line_in input) a b same in
        malformed_answer cut i p ∙ sym (malformed_answer input i q)
