-- Facts for a program that answers its input. Assumes nothing.
use Rattle.std.specs.Prelude.{◌≡◌, ℕ, List, length, take, Option, None, Some, Result, Ok, IfSome, OnOk}
use Rattle.std.proofs.Common.{ap, subst, ◌∙◌}
use Rattle.std.specs.Io.KnownBytes.{Appends}
use Rattle.program_input.specs.Counts.{size_of}
use Rattle.program_input.specs.declared.Unread.{Unread}

-- What answers the bytes that were read answers the whole input, where the first bytes of an input have its answer.
pub answers_all : {A E : Type 0} (input : Option (List ℕ)) (r : Result A E) (old new : Option (List ℕ)) (answer : List ℕ → List ℕ) (n long : ℕ) (buf : List ℕ)
    → length buf ≡ long → ((xs : List ℕ) → answer (take long xs) ≡ answer xs) → IfSome input (λ xs. take n buf ≡ take (length buf) xs)
    → OnOk r (Appends old new (answer (take n buf))) → IfSome input (λ xs. OnOk r (Appends old new (answer xs)))
answers_all None r old new answer n long buf h first read w = tt
answers_all (Some xs) r old new answer n long buf h first read w =
    subst (λ bs. OnOk r (Appends old new bs)) (ap answer (read ∙ ap (λ k. take k xs) h) ∙ first xs) w

-- A read that does not fail has read the first bytes of the input, as many as it says.
pub first_bytes : (input : Option (List ℕ)) (r : Result ℕ Unread) (n : ℕ) (buf : List ℕ) → r ≡ Ok n
    → OnOk r (IfSome input (λ xs. take (size_of r) buf ≡ take (length buf) xs)) → IfSome input (λ xs. take n buf ≡ take (length buf) xs)
first_bytes input r n buf is read = subst (λ r'. OnOk r' (IfSome input (λ xs. take (size_of r') buf ≡ take (length buf) xs))) is read
