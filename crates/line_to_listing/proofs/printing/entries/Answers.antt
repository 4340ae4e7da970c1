use Rattle.std.proofs.Common.{rules, arith}
use Rattle.line_to_listing.proofs.Facts.PrintCases.{entries_start, entries_next}
use Rattle.line_to_listing.proofs.printing.entries.Goals as goal

pub loop-i-init : goal.loop-i-init
loop-i-init c = (entries_start _ _ _ _ (omega arith), omega arith, omega arith)

pub loop-i-preserved : goal.loop-i-preserved
loop-i-preserved c = (entries_next _ _ _ _ _ _ _ _ _ _ c.loop-i.invariant.0 c.entry_at.ensures c.entry-end.ensures.0, omega (arith, c.loop-i.invariant.1, c.entry-end.ensures.1), search rules)
