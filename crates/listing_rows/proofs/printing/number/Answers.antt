use native.Mathlib.Omega.{arith}
use Rattle.listing_text.proofs.Facts.PrintCases.{byte_then}
use Rattle.listing_rows.proofs.printing.number.Goals as goal

pub returns : goal.returns
returns c = byte_then _ _ _ _ _ _ _ _ _ c.put-next.ensures c.print_u64.ensures (omega arith)
