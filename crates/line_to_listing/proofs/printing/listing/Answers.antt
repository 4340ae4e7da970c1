use Rattle.std.proofs.Common.{refl, arith}
use Rattle.listing_text.specs.Text.{bytes}
use Rattle.listing_text.proofs.Facts.PrintCases.{wrote_then, wrote-put}
use Rattle.line_to_listing.specs.Output.{listing_of}
use Rattle.line_to_listing.proofs.Facts.PrintCases.{then_put}
use Rattle.line_to_listing.proofs.printing.listing.Goals as goal

pub returns : goal.returns
unfolding listing_of
returns c =
    let first = wrote-put _ _ (bytes "tapes symbols states start\n") _ _ (bytes "tapes symbols states start\n") refl c.put-r1.ensures (omega arith) in
    let numbers = wrote_then first c.machine_line-r2.ensures.0 in
    let names = then_put (bytes "state read write move next\n") _ _ numbers c.put-r3.ensures (omega arith) in
    then_put (bytes "word\n\ncall number\n") _ _ (wrote_then names c.entries-r4.ensures.0) c.put.ensures (omega arith)
