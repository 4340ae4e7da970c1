-- THE FIRST DEMAND for tables in the one-line form (document 02, request 1): reading a line and writing one. `papers/Paper01` says what the tests of 19, 20 and 21
-- mean.
use Rattle.outcome.specs.declared.Refusal.{Refusal}
use Rattle.std.specs.Prelude.{List, [], ◌∷◌, ℕ, length, Err, Result}
use Rattle.machine.specs.declared.Machine.{Machine}
use Rattle.table_text_reader.specs.Reading.{read_of, read_into}
use Rattle.table_text_writer.specs.Writing.{write_of, write_into}
use Rattle.demands_first.specs.FirstClaims.{TurnsAway, refusal_of}
use Rattle.demands_first.specs.FirstTests.{read_tests, write_tests}

pub record LineOperations : Type 0 where
  -- ---- "A refusal carries its number from document 01 and changes no state, tape, run stack or store."

  -- reading: the answer, with the lent table
  pub read : (line table : List ℕ)
      → TurnsAway (19 ∷ 20 ∷ 18 ∷ []) (read_tests line (length table)) (λ (x : Result Machine Refusal × List ℕ). refusal_of x.0) (λ why. (Err why, table))
      (read_of line (length table), read_into line table)
  -- writing: the answer, with the lent line
  pub write : (m : Machine) (s line : List ℕ)
      → TurnsAway (1 ∷ 2 ∷ 3 ∷ 4 ∷ 5 ∷ 6 ∷ 21 ∷ 18 ∷ []) (write_tests m s (length line)) (λ (x : Result ℕ Refusal × List ℕ). refusal_of x.0) (λ why. (Err why, line))
      (write_of m s (length line), write_into m s line)
