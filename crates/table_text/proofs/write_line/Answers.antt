use Rattle.notation.proofs.Facts.Exit.{exit_and}
use Rattle.std.proofs.Common.{ap, not}
use Rattle.table_text_writer.proofs.Facts.WriteCases.{write_refused, write_none, write_short, write_whole}
use Rattle.table_text_writer.proofs.Facts.Fits.{all_printable, line_small, line_some}
use Rattle.table_text_rows.proofs.Facts.Rows.{line_says}
use Rattle.machine.proofs.Facts.Check.{ranges}
use Prim.Native.Nat.{ℕ, ◌≤◌}
use mathlib.Core.Path.{refl, sym, subst, ◌∙◌}
use native.Mathlib.Omega.{arith}
use Rattle.table_text.proofs.write_line.Goals as goal

pub returns-in_err-check : goal.returns-in_err-check
returns-in_err-check c = exit_and _ _ c.from_residual.ensures.1 (write_refused _ _ _ _ c.check.ensures _ c.in_err-check.was)

pub has_line-requires : goal.has_line-requires
has_line-requires c = let g = ranges _ _ (sym c.check.ensures ∙ c.in_ok-check.was) in (g.symbols_high, g.states_low, g.states_high)

pub returns-then-not-has_line : goal.returns-then-not-has_line
returns-then-not-has_line c = write_none _ _ _ _ c.check.ensures c.in_ok-check.was _ c.has_line.ensures (ap not c.if-not-has_line.true)

pub lettered_rows-rows-requires : goal.lettered_rows-rows-requires
lettered_rows-rows-requires c = let g = ranges _ _ (sym c.check.ensures ∙ c.in_ok-check.was) in (g.symbols_high, g.states_low, g.states_high)

pub overflow_mul-size : goal.overflow_mul-size
overflow_mul-size c = let l = line_says _ _ (sym c.has_line.ensures ∙ c.if-not-has_line.false) in omega (arith, l.symbols_are.1)

pub overflow_add-size : goal.overflow_add-size
overflow_add-size c = let l = line_says _ _ (sym c.has_line.ensures ∙ c.if-not-has_line.false) in omega (arith, l.symbols_are.1)

pub overflow_mul-size-2 : goal.overflow_mul-size-2
overflow_mul-size-2 c = let l = line_says _ _ (sym c.has_line.ensures ∙ c.if-not-has_line.false) in let z = subst (λ (n : ℕ). (1 ≤ n) × (n ≤ 25)) (sym c.lettered_rows-rows.ensures) l.rows_are in let p = line_small _ _ z.1 l.symbols_are.1 in omega arith

pub overflow_sub-size : goal.overflow_sub-size
overflow_sub-size c = let l = line_says _ _ (sym c.has_line.ensures ∙ c.if-not-has_line.false) in let z = subst (λ (n : ℕ). (1 ≤ n) × (n ≤ 25)) (sym c.lettered_rows-rows.ensures) l.rows_are in line_some _ _ z.0

pub returns-then-line-size : goal.returns-then-line-size
returns-then-line-size c = write_short _ _ _ _ c.check.ensures c.in_ok-check.was _ c.has_line.ensures (ap not c.if-not-has_line.false) _ _ c.lettered_rows-rows.ensures refl c.if-line-size.true

pub write_bytes-requires : goal.write_bytes-requires
write_bytes-requires c = let l = line_says _ _ (sym c.has_line.ensures ∙ c.if-not-has_line.false) in let z = subst (λ (n : ℕ). (1 ≤ n) × (n ≤ 25)) (sym c.lettered_rows-rows.ensures) l.rows_are in let p = line_small _ _ z.1 l.symbols_are.1 in (all_printable _ _ (sym c.check.ensures ∙ c.in_ok-check.was) _ l, l.symbols_are.1, omega arith, c.if-line-size.false)

pub returns : goal.returns
returns c = write_whole _ _ _ _ c.check.ensures c.in_ok-check.was _ c.has_line.ensures (ap not c.if-not-has_line.false) _ _ c.lettered_rows-rows.ensures refl _ c.if-line-size.false c.write_bytes.ensures
