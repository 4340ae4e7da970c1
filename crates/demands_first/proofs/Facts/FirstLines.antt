-- Reading a line and writing one refuse by their lists of tests, and a refusal changes nothing. Assumes nothing.
use Rattle.outcome.specs.declared.Refusal.{Refusal}
use Rattle.std.specs.Prelude.{◌≡◌, leb, length, Err, Ok, Option, Result, ⊤}
use Rattle.std.proofs.Math.Path.{refl, subst}
use Rattle.std.proofs.Common.{ap, ◌∙◌}
use Rattle.std.proofs.Math.Bool.{Bool, true, false}
use mathlib.Core.List.{List, [], ◌∷◌}
use Prim.Native.Nat.{ℕ}
use Rattle.notation.specs.Choice.{pick}
use Rattle.notation.specs.Scan.{all_in, first_fail}
use Rattle.notation.proofs.Facts.Scan.{Scanned, clean, failed, scanned, all_says, all_holds}
use Rattle.notation.proofs.Facts.Tests.{by_test, clash, pick_true, pick_false}
use Rattle.outcome.specs.declared.Refusal.TheVariants as Why
use Rattle.machine.specs.declared.Machine.{Machine}
use Rattle.machine.specs.Model.Check.{checked_on, table_check}
use Rattle.table_text_form.specs.Form.{form_of}
use Rattle.table_text_rows.specs.Rows.{has_line}
use Rattle.table_text_reader.specs.Reading.{has_byte, machine_of, table_size, room_for, lacks_at, read_as, read_of, read_on, read_into}
use Rattle.table_text_writer.specs.Writing.{size_of, written_on, write_of, write_on, write_into}
use Rattle.demands_first.specs.FirstClaims.{Test, or, first_of, numbers_of, number_or0, TurnsAway, refusal_of}
use Rattle.demands_first.specs.FirstTests.{table_tests, rows_of, symbols_of, read_tests_of, read_tests, write_tests}
use Rattle.demands_first.proofs.Facts.First.{turns, table_first, on_first}

-- ---- reading

module _ (line table : List ℕ) where
  -- the result for a line that the automaton scans as x, where the check gives this
  abbrev reads : Result (ℕ × ℕ) ℕ → Result ⊤ Refusal → Result Machine Refusal × List ℕ
  reads x (Ok tt) = (Ok (machine_of (rows_of x) (symbols_of x)), read_on (Ok (machine_of (rows_of x) (symbols_of x))) line table)
  reads x (Err why) = (Err why, table)

  abbrev both_of : Result Machine Refusal → Result Machine Refusal × List ℕ
  both_of r = (r, read_on r line table)

  read_room : (r k : ℕ) (b : Bool) → reads (Ok (r, k)) (pick b (Ok tt) (Err Why.OutputSize)) ≡ both_of (pick b (Ok (machine_of r k)) (Err Why.OutputSize))
  unfolding pick
  read_room r k true = refl
  read_room r k false = refl

  read_as_lem : (x : Result (ℕ × ℕ) ℕ) → reads x (first_of (read_tests_of x line (length table))) ≡ both_of (read_as x line (length table))
  unfolding first_of pick
  read_as_lem (Err i) = refl
  read_as_lem (Ok (r, k)) = by (first_fail p n 0) (scanned p n 0)
    where
      p : ℕ → Bool
      p = has_byte r k line

      n : ℕ
      n = length line

      room : Result ⊤ Refusal
      room = pick (leb (table_size r k) (length table)) (Ok tt) (Err Why.OutputSize)

      by : (o : Option ℕ) → Scanned p n 0 o → reads (Ok (r, k)) (pick (all_in p n 0) room (Err (Why.LineLacks (number_or0 o)))) ≡ both_of (lacks_at o (room_for r k (length table)))
      by o (clean h) = ap (reads (Ok (r, k))) (pick_true (all_in p n 0) room _ (all_holds p n 0 h)) ∙ read_room r k (leb (table_size r k) (length table))
      by o (failed j a b e h) = ap (reads (Ok (r, k))) (pick_false (all_in p n 0) room _ (by_test (all_in p n 0) (λ t. absurd (clash (all_says p n 0 t j a b) e)) (λ t. t)))

  pub read_turns : TurnsAway (19 ∷ 20 ∷ 18 ∷ []) (read_tests line (length table)) (λ (x : Result Machine Refusal × List ℕ). refusal_of x.0) (λ why. (Err why, table))
      (read_of line (length table), read_into line table)
  unfolding numbers_of read_of read_into
  read_turns =
      subst (TurnsAway (19 ∷ 20 ∷ 18 ∷ []) (read_tests line (length table)) (λ (x : Result Machine Refusal × List ℕ). refusal_of x.0) (λ why. (Err why, table))) (read_as_lem (form_of line))
      (turns _ (read_tests line (length table)) (λ (x : Result Machine Refusal × List ℕ). refusal_of x.0) (λ why. (Err why, table)) (reads (form_of line)) (first_of (read_tests line (length table)))
      refl refl refl (λ why. refl) (λ why. refl))

-- ---- writing

module _ (m : Machine) (s line : List ℕ) where
  -- the result where the check gives this
  abbrev writes : Result ⊤ Refusal → Result ℕ Refusal × List ℕ
  writes (Ok tt) = (Ok (size_of m s), write_on (Ok (size_of m s)) m s line)
  writes (Err why) = (Err why, line)

  abbrev both-of-written : Result ℕ Refusal → Result ℕ Refusal × List ℕ
  both-of-written r = (r, write_on r m s line)

  abbrev own : List Test
  own = or (has_line m s) Why.NoLine ∷ or (leb (size_of m s) (length line)) Why.OutputSize ∷ []

  abbrev inner : Bool → Bool → Result ℕ Refusal
  inner a b = pick a (pick b (Ok (size_of m s)) (Err Why.OutputSize)) (Err Why.NoLine)

  write_own : (a b : Bool) → writes (pick a (pick b (Ok tt) (Err Why.OutputSize)) (Err Why.NoLine)) ≡ both-of-written (inner a b)
  unfolding pick
  write_own true true = refl
  write_own true false = refl
  write_own false b = refl

  write_as : (c : Result ⊤ Refusal) → writes (checked_on c (first_of own)) ≡ both-of-written (written_on c (inner (has_line m s) (leb (size_of m s) (length line))))
  unfolding first_of
  write_as (Ok tt) = write_own (has_line m s) (leb (size_of m s) (length line))
  write_as (Err why) = refl

  pub write_turns : TurnsAway (1 ∷ 2 ∷ 3 ∷ 4 ∷ 5 ∷ 6 ∷ 21 ∷ 18 ∷ []) (write_tests m s (length line)) (λ (x : Result ℕ Refusal × List ℕ). refusal_of x.0) (λ why. (Err why, line))
      (write_of m s (length line), write_into m s line)
  unfolding numbers_of write_of write_into
  write_turns =
      subst (TurnsAway (1 ∷ 2 ∷ 3 ∷ 4 ∷ 5 ∷ 6 ∷ 21 ∷ 18 ∷ []) (write_tests m s (length line)) (λ (x : Result ℕ Refusal × List ℕ). refusal_of x.0) (λ why. (Err why, line)))
      (write_as (table_check m s))
      (turns _ (write_tests m s (length line)) (λ (x : Result ℕ Refusal × List ℕ). refusal_of x.0) (λ why. (Err why, line)) writes (checked_on (table_check m s) (first_of own))
      refl (on_first _ _ (table_tests m s) own (table_first m s) refl) refl (λ why. refl) (λ why. refl))
