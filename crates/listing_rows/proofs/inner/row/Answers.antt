use Rattle.listing_rows.proofs.Facts.RowCases.{row_turned}
use Rattle.listing_rows.proofs.inner.row.Goals as goal

pub returns-in-Err : goal.returns-in-Err
returns-in-Err c = row_turned _ _ _ _ _ _ _ _ _ c.in-Err.is c.number.ensures c.refused.ensures
