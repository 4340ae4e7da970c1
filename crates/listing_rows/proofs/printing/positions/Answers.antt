use native.Mathlib.Omega.{arith}
use Rattle.listing_text.proofs.Facts.PrintCases.{wrote_then}
use Rattle.listing_rows.proofs.printing.positions.Goals as goal

pub returns : goal.returns
returns c = (wrote_then (wrote_then c.position-head.ensures.0 c.position-low.ensures.0) c.position.ensures.0, omega (arith, c.position-head.ensures.1, c.position-low.ensures.1, c.position.ensures.1))
