-- THE FIRST DEMAND for the listing, from the bytes of an input to the bytes that `seekrun` prints. The part is about the definition that the contract of
-- `listing::list` cites.
use Rattle.outcome.specs.declared.Refusal.{Refusal}
use Rattle.std.specs.Prelude.{◌≡◌, ◌↔◌, List, [], ◌∷◌, ◌++◌, ℕ, ◌≤◌, ◌<◌, length, drop, Err, Ok, Result}
use Rattle.outcome.specs.declared.Refusal.TheVariants as Why
use Rattle.listing.specs.Output.{answer_to, list_of}
use Rattle.demands_first.specs.FirstClaims.{TurnsAway, refusal_of}
use Rattle.demands_first.specs.FirstTests.{list_tests}

pub record ListingOperation : Type 0 where
  -- ---- "A refusal carries its number from document 01 and changes no state, tape, run stack or store."

  -- the listing: the answer, with the lent output
  pub list : (input out : List ℕ)
      → TurnsAway (18 ∷ []) (list_tests (length out)) (λ (x : Result ℕ Refusal × List ℕ). refusal_of x.0) (λ why. (Err why, out)) (list_of input out)
  -- it is refused exactly where the output is under 8,743 bytes, with 18 and nothing written; an output of 8,743 bytes or more is accepted for any input
  pub short : (input out : List ℕ) → (list_of input out ≡ (Err Why.OutputSize, out)) ↔ (length out < 8743)
  pub long : (input out : List ℕ) → 8743 ≤ length out
      → list_of input out ≡ (Ok (length (answer_to input)), answer_to input ++ drop (length (answer_to input)) out)
