use Rattle.std.proofs.Common.{arith, length, ◌/◌}
use Rattle.rle_slots.proofs.Facts.Numbers.{length_numbers}
use Rattle.rle_slots.proofs.inner.held.NumbersLengths.at.Goals as goal

pub number-requires : goal.number-requires
number-requires c =
    omega (arith, c.requires, length_numbers c.args.self.now.bytes.now 0 (length c.args.self.now.bytes.now / 8))
