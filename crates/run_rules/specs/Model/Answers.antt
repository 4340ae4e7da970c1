-- The answer of an operation after its check, over any kind of configuration, and of a question. Definitions only.
use Rattle.std.specs.Prelude.{Err, Ok, Result, ⊤}
use Rattle.outcome.specs.declared.Refusal.{Refusal}

-- "A refusal leaves everything lent or passed as it was."
abbrev pub answered : {C A G : Type 0} → (give : C → A → G) → (refuse : Refusal → A) → Result ⊤ Refusal → (before after : C) → A → G
answered give refuse (Err why) σ τ a = give σ (refuse why)
answered give refuse (Ok tt) σ τ a = give τ a

abbrev pub asked_on : {A : Type 0} → Result ⊤ Refusal → (Refusal → A) → A → A
asked_on (Err why) refused answer = refused why
asked_on (Ok tt) refused answer = answer
