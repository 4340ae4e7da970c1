use Rattle.std.proofs.Common.{rules}
use Rattle.listing_reader.proofs.Facts.Accepted.{contents_ok}
use Rattle.listing.proofs.Facts.OutputCases.{read_bad, read_asked}
use Rattle.listing.proofs.printed.print.Goals as goal

pub returns-in-Err : goal.returns-in-Err
returns-in-Err c = read_bad _ _ c.read-got.ensures _ c.in-Err.is c.refused.ensures

pub answer-requires : goal.answer-requires
answer-requires c = (c.requires, contents_ok _ _ c.read-got.ensures _ c.in-Ok.is, search rules, search rules, search rules)

pub returns-in-Ok : goal.returns-in-Ok
returns-in-Ok c = read_asked _ _ c.read-got.ensures _ c.in-Ok.is c.answer.ensures
