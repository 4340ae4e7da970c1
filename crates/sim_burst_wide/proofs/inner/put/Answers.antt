use Rattle.sim_burst_wide.proofs.Facts.BurstCases.{wrote_there, wrote_none}
use Rattle.sim_burst_wide.proofs.inner.put.Goals as goal

pub returns-then-head-t : goal.returns-then-head-t
returns-then-head-t c = wrote_there c.args.t c.args.cells.now c.args.w c.if-head-t.true

pub returns-else-head-t : goal.returns-else-head-t
returns-else-head-t c = wrote_none c.args.t c.args.cells.now c.args.w c.if-head-t.false
