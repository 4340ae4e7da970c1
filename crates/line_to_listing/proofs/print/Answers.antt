use Rattle.std.proofs.Common.{rules}
use Rattle.line_to_listing.proofs.Facts.AnswerCases.{table_fits, table_printed, refused_printed}
use Rattle.line_to_listing.proofs.print.Goals as goal

pub listing-requires : goal.listing-requires
listing-requires c =
    let f = table_fits _ _ c.line_length-n.ensures.0 _ _ c.read_line-read.ensures _ c.in-Ok.is in
    (search rules, f.0, f.1)

pub returns-in-Ok : goal.returns-in-Ok
returns-in-Ok c = table_printed _ _ c.line_length-n.ensures.0 _ _ c.read_line-read.ensures _ c.in-Ok.is c.listing.ensures

pub returns-in-Err : goal.returns-in-Err
returns-in-Err c = refused_printed _ _ c.line_length-n.ensures.0 _ _ c.read_line-read.ensures _ c.in-Err.is c.refused.ensures
