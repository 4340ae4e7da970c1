use Rattle.line_to_listing.proofs.Facts.PrintCases.{entry_none, entry_some}
use Rattle.line_to_listing.proofs.printing.entry.Goals as goal

pub returns-in-None : goal.returns-in-None
returns-in-None c = entry_none _ _ _ _ _ c.in-None.is c.requires.0

pub returns-in-Some : goal.returns-in-Some
returns-in-Some c = entry_some _ _ _ _ _ _ _ _ c.in-Some.is c.entry_line.ensures
