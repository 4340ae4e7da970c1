-- Tables whose entries have a text: each symbol written is a digit, each next state a letter. Assumes nothing.
use Rattle.std.specs.Prelude.{◌≡◌, List, ℕ, ◌+◌, ◌*◌, ◌/◌, ◌≤◌, ◌<◌, eqb, ltb, None, Ok, Option, Some}
use Rattle.std.proofs.Common.{sym, subst, mul-le-mul, arith}
use borrow.Author.Tests.{eqb-true, ltb-true}
use Rattle.std.proofs.Math.ListN.{length}
use Rattle.notation.specs.Choice.{both}
use Rattle.notation.proofs.Facts.Tests.{both_split, pick_cases}
use Rattle.machine.specs.declared.Machine.{Machine}
use Rattle.machine.specs.declared.Action.{Action}
use Rattle.machine.specs.Layout.{flag_at, action_at, entry_at}
use Rattle.machine.specs.Model.Check.{table_check}
use Rattle.machine.proofs.Facts.Check.{ranges, defined_passed}
use Rattle.table_text_writer.specs.Fits.{Printable, AllPrintable}
use Rattle.table_text_rows.specs.Meaning.{HasLine}
use Rattle.table_text_rows.proofs.Facts.Rows.{lettered_states}

pub printable_at : (s : List ℕ) (e : Option Action) (i : ℕ) → AllPrintable s → e ≡ entry_at s i → Printable e
unfolding AllPrintable
printable_at s e i h p = subst Printable (sym p) (h i)

-- every entry of an accepted table that has a line has a text
module _ (m : Machine) (s : List ℕ) (accepted : table_check m s ≡ Ok tt) (z : ℕ) (h : HasLine m s z) where
  pub all_printable : AllPrintable s
  unfolding AllPrintable entry_at action_at
  all_printable i = pick_cases (both (ltb i (length s / 8)) (eqb (flag_at s i) 1)) (Some (action_at s i)) None Printable
      (λ e.
      let p = both_split e in
      let g = ranges m s accepted in
      let size = g.size in
      let n : i < length s / 8 = ltb-true _ _ p.0 in
      let d = defined_passed m s i accepted (omega arith) (eqb-true _ _ p.1) in
      (omega (arith, d.write0_in, h.symbols_are.1), omega (arith, d.next_in, (lettered_states m s z h.lettered).1, h.rows_are.1)))
      (λ e. tt)

-- ---- products

pub line_small : (z k : ℕ) → z ≤ 25 → k ≤ 10 → z * (3 * k + 1) ≤ 775
line_small z k h l = mul-le-mul {n₂ = 25} {m₂ = 31} h (omega arith)

pub line_some : (z k : ℕ) → 1 ≤ z → 1 ≤ z * (3 * k + 1)
line_some z k h = mul-le-mul {n₁ = 1} {m₁ = 1} h (omega arith)
