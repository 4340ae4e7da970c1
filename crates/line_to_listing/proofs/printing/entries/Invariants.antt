use Prim.Native.Nat.{◌+◌, ◌*◌, ◌≤◌}
use Rattle.listing_text.specs.Model.{Wrote}
use Rattle.line_to_listing.specs.Output.{entry_lines}
use Rattle.line_to_listing.proofs.printing.entries.Given as goal

abbrev pub invariant-loop-i : goal.invariant-loop-i
invariant-loop-i l =
    Wrote l.initial.out l.at (entry_lines l.symbols l.table l.i) l.out l.end × (l.end ≤ l.at + 86 * l.i) × (l.i ≤ l.count)
