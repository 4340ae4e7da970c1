use native.Mathlib.Omega.{arith}
use Rattle.listing_text.proofs.Facts.PrintCases.{wrote_long}
use Rattle.listing.proofs.Facts.OutputCases.{list_short, list_long}
use Rattle.listing.proofs.list.Goals as goal

pub returns-then-output-lt-OUTPUT : goal.returns-then-output-lt-OUTPUT
returns-then-output-lt-OUTPUT c = (list_short _ _ (omega arith), tt)

pub returns : goal.returns
returns c = (list_long _ _ _ _ (omega arith) c.print.ensures, omega (arith, c.print.ensures.ends, c.print.ensures.fits, wrote_long c.print.ensures))
