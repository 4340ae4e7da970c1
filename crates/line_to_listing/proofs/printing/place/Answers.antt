use Rattle.line_to_listing.proofs.Facts.PrintCases.{place_none, place_some}
use Rattle.line_to_listing.proofs.printing.place.Goals as goal

pub returns-in-None : goal.returns-in-None
returns-in-None c = place_none _ _ _ c.in-None.is c.requires

pub returns-in-Some : goal.returns-in-Some
returns-in-Some c = place_some _ _ _ _ _ _ _ _ c.in-Some.is c.requires c.put-next.ensures c.print_u64.ensures
