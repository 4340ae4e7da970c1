-- The answer of an operation after its check, one fact for each case. Assumes nothing.
use Rattle.std.specs.Prelude.{◌≡◌, Err, Ok, Result, ⊤}
use Rattle.outcome.specs.declared.Refusal.{Refusal}
use Rattle.run_rules.specs.Model.Answers.{answered}

module _ {C A G : Type 0} (give : C → A → G) (refuse : Refusal → A) (r : Result ⊤ Refusal) (σ τ : C) (a : A) where
  pub stays_refused : (why : Refusal) → r ≡ Err why → give σ (refuse why) ≡ answered give refuse r σ τ a
  stays_refused why e = rw e

  pub gives_accepted : r ≡ Ok tt → give τ a ≡ answered give refuse r σ τ a
  gives_accepted e = rw e
