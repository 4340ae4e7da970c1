-- What a function returns at the exit of a `?`, where its error and the callee's are of one type.
use Rattle.std.specs.Prelude.{◌≡◌, Result, Ok, Err, IsErrAnd}
use Rattle.std.proofs.Common.{ap, ◌∙◌}

pub exit : {T E : Type 0} (r : Result T E) (why : E) → IsErrAnd r (λ x. x ≡ why) → r ≡ Err why
exit (Ok x) why h = absurd h
exit (Err x) why h = ap Err h

-- the same beside a second fact, such as what was lent
pub exit_and : {T E P : Type 0} {x : Result T E} (r : Result T E) (why : E) → IsErrAnd r (λ y. y ≡ why) → (Err why ≡ x) × P → (r ≡ x) × P
exit_and r why h p = (exit r why h ∙ p.0, p.1)
