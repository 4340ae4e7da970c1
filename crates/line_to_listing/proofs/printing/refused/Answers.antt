use mathlib.Core.Path.{refl}
use native.Mathlib.Omega.{arith}
use Rattle.listing_text.specs.Text.{bytes}
use Rattle.listing_text.proofs.Facts.PrintCases.{wrote_then, wrote-put}
use Rattle.line_to_listing.proofs.Facts.PrintCases.{then_put, refused_done}
use Rattle.line_to_listing.proofs.printing.refused.Goals as goal

pub returns : goal.returns
returns c = refused_done _ _ _ c.number.ensures c.place.ensures (then_put (bytes "\n") _ _ (wrote_then (wrote_then (wrote-put _ _ (bytes "refused ") _ _ (bytes "refused ") refl c.put-r1.ensures (omega arith)) c.print_u64-r2.ensures.0) c.place-r3.ensures.0) c.put.ensures (omega arith))
