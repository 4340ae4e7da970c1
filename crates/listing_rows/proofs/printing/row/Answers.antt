use Rattle.listing_rows.proofs.Facts.RowCases.{row_done}
use Rattle.listing_rows.proofs.printing.row.Goals as goal

pub returns : goal.returns
returns c = row_done _ _ _ _ _ _ _ _ _ _ _ _ _ _ _ _ _ _ c.count_non_blank-score.ensures c.answer-r1.ensures c.number-r2.ensures c.number-r3.ensures c.positions-r4.ensures c.number-r5.ensures c.put.ensures c.requires.0
