use native.Mathlib.Omega.{arith}
use Rattle.listing_text.proofs.Facts.PrintCases.{wrote_then}
use Rattle.line_to_listing.proofs.printing.entry_line.Goals as goal

pub returns : goal.returns
returns c = (wrote_then (wrote_then (wrote_then (wrote_then c.number-r1.ensures.0 c.number-r2.ensures.0) c.number-r3.ensures.0) c.print_move-r4.ensures.0) c.number.ensures.0, omega (arith, c.number-r1.ensures.1, c.number-r2.ensures.1, c.number-r3.ensures.1, c.print_move-r4.ensures.1, c.number.ensures.1))
