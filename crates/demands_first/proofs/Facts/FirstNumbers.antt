-- THE FIRST DEMAND by numbers: "A refusal carries its number from document 01". This is true for every operation of the demand. Assumes nothing.
use Rattle.std.specs.Prelude.{◌≡◌, refl, Bool, true, false, List, [], ◌∷◌, ℕ, Err, Result, ⊤}
use Rattle.std.proofs.Common.{ap, ◌∙◌}
use Rattle.notation.specs.Choice.{pick}
use Rattle.outcome.specs.declared.Refusal.{Refusal}
use Rattle.outcome.specs.Numbers.{refusal_number}
use Rattle.demands_first.specs.FirstClaims.{Test, first_of, number_of, first_number, TurnsAway}

picked : (b : Bool) (x : Result ⊤ Refusal) (n : ℕ) (why : Refusal) → number_of x ≡ n → number_of (pick b x (Err why)) ≡ pick b n (refusal_number why)
unfolding pick
picked true x n why e = e
picked false x n why e = refl

first_number_lem : (tests : List Test) → number_of (first_of tests) ≡ first_number tests
unfolding first_of first_number
first_number_lem [] = refl
first_number_lem (t ∷ rest) = picked t.holds (first_of rest) (first_number rest) t.why (first_number_lem rest)

-- the number of its answer is that of the first test that fails, or 0 where none fails
pub answer_number : {X : Type 0} {numbers : List ℕ} {tests : List Test} {refusal : X → Result ⊤ Refusal} {as_it_was : Refusal → X} {left : X}
    → TurnsAway numbers tests refusal as_it_was left → number_of (refusal left) ≡ first_number tests
answer_number {tests = tests} t = ap number_of t.first ∙ first_number_lem tests
