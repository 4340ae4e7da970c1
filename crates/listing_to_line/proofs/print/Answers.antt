use Rattle.std.proofs.Common.{rules}
use mathlib.Core.Path.{sym}
use native.Mathlib.Omega.{arith}
use lib.Seq.{length-take-le}
use Rattle.listing_to_line.proofs.Facts.AnswerCases.{few_entries, table_holds, bad_printed, asked_printed}
use Rattle.listing_to_line.proofs.print.Goals as goal

pub returns-in-Err : goal.returns-in-Err
returns-in-Err c = bad_printed _ _ c.read-got.ensures _ c.in-Err.is c.numbered_line.ensures

pub overflow_mul-size : goal.overflow_mul-size
overflow_mul-size c = record { fits = omega (arith, few_entries _ _ c.read-got.ensures _ c.in-Ok.is) }

pub overflow_mul-size-in-Ok : goal.overflow_mul-size-in-Ok
overflow_mul-size-in-Ok c = record { fits = omega (arith, few_entries _ _ c.read-got.ensures _ c.in-Ok.is) }

pub slice_bounds-table-end : goal.slice_bounds-table-end
slice_bounds-table-end c = table_holds _ _ c.read-got.ensures _ c.in-Ok.is (search rules)

pub slice_bounds-line-end : goal.slice_bounds-line-end
slice_bounds-line-end c = sym (length-take-le _ _ (table_holds _ _ c.read-got.ensures _ c.in-Ok.is (search rules)))

pub returns-in-Ok : goal.returns-in-Ok
returns-in-Ok c = asked_printed _ _ c.read-got.ensures _ c.in-Ok.is c.line.ensures
