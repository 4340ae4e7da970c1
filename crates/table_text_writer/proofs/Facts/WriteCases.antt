-- Writing a line, one fact for each way through the code. Assumes nothing.
use Rattle.std.specs.Prelude.{◌≡◌, refl, Bool, false, not, List, ℕ, ◌-◌, ◌≤◌, ◌<◌, leb, Err, Ok, Result, ⊤}
use Rattle.std.proofs.Math.Path.{sym, ap}
use Rattle.std.proofs.Common.{◌∙◌, arith}
use Rattle.std.proofs.Math.Bool.{true}
use borrow.Author.Tests.{lt-leb, le-leb, not-true, not-false}
use Rattle.std.proofs.Math.ListN.{length}
use Rattle.notation.specs.Choice.{pick}
use Rattle.notation.specs.Fill.{fill_from}
use Rattle.notation.proofs.Facts.Tests.{pick_true, pick_false}
use Rattle.outcome.specs.declared.Refusal.{Refusal}
use Rattle.outcome.specs.declared.Refusal.TheVariants as Why
use Rattle.machine.specs.declared.Machine.{Machine}
use Rattle.machine.specs.Model.Check.{table_check}
use Rattle.table_text_rows.specs.Rows.{lettered_rows, has_line}
use Rattle.table_text_writer.specs.Writing.{line_byte, line_size, size_of, written_on, write_of, write_on, write_into}

-- ---- the operation

module _ (m : Machine) (s line : List ℕ) (r : Result ⊤ Refusal) (checked : r ≡ table_check m s) where
  abbrev Writes : Result ℕ Refusal → List ℕ → Type 0
  Writes w out = (w ≡ write_of m s (length line)) × (out ≡ write_into m s line)

  -- a refused table leaves the line alone
  alone : (why : Refusal) → Err why ≡ write_of m s (length line) → Writes (Err why) line
  unfolding write_into
  alone why e = (e, ap (λ (w : Result ℕ Refusal). write_on w m s line) e)

  pub write_refused : (why : Refusal) → r ≡ Err why → Writes (Err why) line
  unfolding write_of
  write_refused why e = alone why (rw (← checked, e))

  module _ (passed : r ≡ Ok tt) (h : Bool) (asked : h ≡ has_line m s) where
    accepted : (w : Result ℕ Refusal) → written_on (Ok tt) w ≡ written_on (table_check m s) w
    accepted w = ap (λ (x : Result ⊤ Refusal). written_on x w) (sym passed ∙ checked)

    pub write_none : not h ≡ true → Writes (Err Why.NoLine) line
    unfolding write_of
    write_none e = alone Why.NoLine (sym (pick_false (has_line m s) _ _ (sym asked ∙ not-true h e)) ∙ accepted _)

    module _ (has : not h ≡ false) (z size : ℕ) (rows : z ≡ lettered_rows m s) (sized : size ≡ line_size z m.symbols) where
      size_is : size ≡ size_of m s
      size_is = sized ∙ ap (λ (n : ℕ). line_size n m.symbols) rows

      room : (b : Bool) → leb (size_of m s) (length line) ≡ b → pick b (Ok (size_of m s)) (Err Why.OutputSize) ≡ write_of m s (length line)
      unfolding write_of
      room b e = ap (λ (x : Bool). pick x (Ok (size_of m s)) (Err Why.OutputSize)) (sym e)
          ∙ sym (pick_true (has_line m s) _ _ (sym asked ∙ not-false h has)) ∙ accepted _

      pub write_short : length line < size → Writes (Err Why.OutputSize) line
      write_short l =
          let n : length line < size_of m s = omega (arith, size_is) in
          alone Why.OutputSize (sym (pick_false false (Ok (size_of m s)) (Err Why.OutputSize) refl) ∙ room false (lt-leb _ _ n))

      pub write_whole : (out : List ℕ) → size ≤ length line → out ≡ fill_from (line_byte z m.symbols s) size 0 line → Writes (Ok size) out
      unfolding write_into
      write_whole out l p =
          let n : size_of m s ≤ length line = omega (arith, size_is) in
          let e : Ok size ≡ write_of m s (length line) = ap Ok size_is ∙ sym (pick_true true (Ok (size_of m s)) (Err Why.OutputSize) refl) ∙ room true (le-leb _ _ n) in
          (e, p ∙ ap (λ (y : ℕ). fill_from (line_byte y m.symbols s) size 0 line) rows ∙ ap (λ (w : Result ℕ Refusal). write_on w m s line) e)
