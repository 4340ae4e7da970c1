-- The three bytes of an entry say the entry. Assumes nothing.
use Rattle.machine.specs.declared.Action.{Action}
use Rattle.std.specs.Prelude.{◌≡◌, refl, ℕ, ◌+◌, ◌≤◌, eqb, None, Option, Some}
use Rattle.std.proofs.Common.{inl, inr, arith, eq-eqb, ne_eqb}
use Rattle.std.proofs.Math.Decide.{ℕ_discrete}
use Rattle.notation.specs.Choice.{pick}
use Rattle.notation.proofs.Facts.Tests.{pick_true, pick_false}
use Rattle.symbol.specs.declared.Dir.{Dir}
use Rattle.symbol.specs.declared.Dir.TheVariants.{L, R, N}
use Rattle.table_text_reader.specs.Meaning.{MoveOf, LetterOf, Says}
use Rattle.table_text_writer.specs.Writing.{move_text, letter_text, entry_text}

move_written : (d : Dir) → ¬ (d ≡ N) → MoveOf (move_text d) d
move_written L n = refl
move_written R n = refl
move_written N n = absurd (n refl)

letter_written : (z q : ℕ) → q ≤ z → LetterOf z (letter_text z q) q
letter_written z q h = by (ℕ_discrete q z)
  where
    by : Dec (q ≡ z) → LetterOf z (letter_text z q) q
    by (yes e) = inl (pick_true (eqb q z) 90 (65 + q) (eq-eqb q z e), e)
    by (no f) = inr (pick_false (eqb q z) 90 (65 + q) (ne_eqb q z f), omega arith)

-- its moves are L or R, and its next state has a letter
abbrev pub HasText : ℕ → Option Action → Type 0
HasText z None = Unit {0}
HasText z (Some a) = ¬ (a.dir0 ≡ N) × (a.next.0 ≤ z)

pub write_says : (z : ℕ) (e : Option Action) → HasText z e → Says z (entry_text z e 0) (entry_text z e 1) (entry_text z e 2) e
unfolding pick
write_says z None h = (refl, refl, refl)
write_says z (Some a) h = (refl, move_written a.dir0 h.0, letter_written z a.next.0 h.1)
