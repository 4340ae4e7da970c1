use Rattle.std.proofs.Common.{arith}
use Rattle.store_bytes.specs.Bytes.{get16, get32, get64}
use Rattle.store_bytes.proofs.inner.get_64.Goals as goal

pub returns : goal.returns
unfolding get16 get32 get64
returns c = grind (arith, c.from_le_bytes.ensures)
