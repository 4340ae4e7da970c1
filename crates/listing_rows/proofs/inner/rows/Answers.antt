use Rattle.std.proofs.Common.{rules}
use mathlib.Core.Path.{refl}
use native.Mathlib.Omega.{arith}
use Rattle.listing_rows.proofs.Facts.RowCases.{rows_start, row_ready, rows_next, rows_end}
use Rattle.listing_rows.proofs.inner.rows.Goals as goal

pub loop-i-init : goal.loop-i-init
loop-i-init c = (rows_start _ _ _ _ _ _ _ c.requires.0 c.requires.1 c.requires.2, refl, refl, refl, refl)

pub row-end-requires : goal.row-end-requires
row-end-requires c = row_ready _ _ _ _ _ _ _ _ _ _ c.make-answered.result.answer c.make-answered.ensures _ _ c.loop-i.invariant.0 (omega arith) c.requires.0

pub loop-i-preserved : goal.loop-i-preserved
loop-i-preserved c = (rows_next _ _ _ _ _ _ _ _ _ _ c.make-answered.result.answer c.make-answered.ensures _ _ c.loop-i.invariant.0 (omega arith) _ _ c.row-end.ensures, search rules, search rules, search rules, search rules)

pub returns : goal.returns
returns c = rows_end _ _ _ _ _ _ _ _ _ _ _ c.loop-i.invariant.0 (omega arith)
