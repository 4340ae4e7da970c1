use native.Mathlib.Omega.{arith}
use Rattle.notation.specs.Position.{◌⊖◌}
use Rattle.listing_text.proofs.Facts.PrintCases.{byte_then}
use Rattle.listing_rows.proofs.printing.position.Goals as goal

pub returns : goal.returns
unfolding ◌⊖◌
returns c = byte_then _ _ _ _ _ _ _ _ _ c.put-next.ensures c.print_position.ensures (omega arith)
