-- The bytes that are read of the input are enough. Assumes nothing.
use Rattle.std.specs.Prelude.{◌≡◌, List, ℕ, take}
use Rattle.std.proofs.Common.{ap}
use Rattle.listing_reader.proofs.Facts.FirstBytes.{first_64k}
use Rattle.listing_to_line.specs.Output.{answer_for, answer_to}

-- the first 65,536 bytes of an input have the same answer as the whole input
pub answer_first : (input : List ℕ) → answer_to (take 65536 input) ≡ answer_to input
unfolding answer_to
answer_first input = ap answer_for (first_64k input)
