use mathlib.Core.Path.{sym}
use native.Mathlib.Omega.{arith}
use lib.Seq.{length-take-le}
use Rattle.listing_to_line.proofs.Facts.AnswerCases.{line_fits, line_printed, table_refused}
use Rattle.listing_to_line.proofs.line.Goals as goal

pub slice_bounds-text-end : goal.slice_bounds-text-end
slice_bounds-text-end c = omega (arith, line_fits _ _ _ _ c.write_line-written.ensures _ c.in-Ok.is)

pub slice_bounds-text_line-end : goal.slice_bounds-text_line-end
slice_bounds-text_line-end c = sym (length-take-le _ _ (omega (arith, line_fits _ _ _ _ c.write_line-written.ensures _ c.in-Ok.is)))

pub returns-in-Ok : goal.returns-in-Ok
returns-in-Ok c = line_printed _ _ _ _ c.write_line-written.ensures _ c.in-Ok.is c.text_line.ensures

pub returns-in-Err : goal.returns-in-Err
returns-in-Err c = table_refused _ _ _ _ c.write_line-written.ensures _ _ c.in-Err.is c.number.ensures c.numbered_line.ensures
