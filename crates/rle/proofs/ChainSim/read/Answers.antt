use native.Mathlib.Omega.{arith}
use Rattle.rle.proofs.ChainSim.read.Goals as goal

pub side_to_read-requires : goal.side_to_read-requires
side_to_read-requires c = (omega (arith, c.requires.sides.left.live, c.requires.sides.left.symbols_in), omega (arith, c.requires.sides.left.live, c.requires.sides.left.lengths_in))

pub side_to_read-requires-2 : goal.side_to_read-requires-2
side_to_read-requires-2 c = (omega (arith, c.requires.sides.right.live, c.requires.sides.right.symbols_in), omega (arith, c.requires.sides.right.live, c.requires.sides.right.lengths_in))
