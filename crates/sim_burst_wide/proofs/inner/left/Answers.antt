use Rattle.sim_burst_wide.proofs.Facts.BurstCases.{moved_left}
use Rattle.sim_burst_wide.proofs.inner.left.Goals as goal

pub returns : goal.returns
returns c = search moved_left
