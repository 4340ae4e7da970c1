use Prim.Native.Nat.{◌-◌}
use lib.ListN.{length}
use Rattle.listing_reader.proofs.Facts.ParseCases.{ParseInv}
use Rattle.listing_reader.proofs.lines.parse.Given as goal

abbrev pub invariant-loop-at : goal.invariant-loop-at
invariant-loop-at l =
    ParseInv l.input l.initial.table l.initial.word l.initial.calls l.table l.word l.calls l.x l.at l.n

abbrev pub decreases-loop-at : goal.decreases-loop-at
decreases-loop-at l = length l.input - l.at
