use Rattle.sim_burst_wide.proofs.Facts.BurstCases.{moved_none}
use Rattle.sim_burst_wide.proofs.inner.move_tape.Goals as goal

pub returns : goal.returns
returns c = moved_none _ _ c.if-d-eq0.false c.if-d-eq1.false
