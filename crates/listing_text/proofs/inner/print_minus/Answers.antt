use native.Mathlib.Omega.{arith}
use Rattle.listing_text.proofs.Facts.PrintCases.{byte_then}
use Rattle.listing_text.proofs.inner.print_minus.Goals as goal

pub returns : goal.returns
returns c = byte_then _ _ 45 _ _ _ _ _ 20 c.put-next.ensures c.print_u64.ensures (omega arith)
