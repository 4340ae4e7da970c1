use Rattle.sim_burst_wide.proofs.Facts.BurstCases.{moved_right}
use Rattle.sim_burst_wide.proofs.inner.right.Goals as goal

pub returns : goal.returns
returns c = search moved_right
