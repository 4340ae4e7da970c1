use Rattle.std.proofs.Common.{arith}
use Rattle.store_bytes.specs.Bytes.{get16}
use Rattle.store_bytes.proofs.inner.get_16.Goals as goal

pub returns : goal.returns
unfolding get16
returns c = omega (arith, c.from_le_bytes.ensures)
