use native.Mathlib.Omega.{arith}
use Rattle.listing_rows.proofs.Facts.RowCases.{refused_done}
use Rattle.listing_rows.proofs.inner.refused.Goals as goal

pub returns : goal.returns
returns c = refused_done _ _ _ _ _ _ _ _ _ c.put-r1.ensures c.print_u64-r2.ensures c.put.ensures (omega arith) (omega arith)
