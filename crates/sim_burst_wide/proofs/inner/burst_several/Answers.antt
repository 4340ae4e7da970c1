use Rattle.sim_burst_wide.proofs.Facts.BurstCases.{carried_start, carried_again}
use Rattle.sim_burst_wide.proofs.inner.burst_several.Goals as goal

pub loop-at-init : goal.loop-at-init
loop-at-init c = carried_start _ _ _ _ _ _ _ _ c.requires.safe_all

pub loop-at-preserved : goal.loop-at-preserved
loop-at-preserved c = carried_again _ _ _ _ _ _ _ _ _ _ _ _ c.loop-at.invariant _ _ _ _ _ c.if-at-eq0.false c.if-at-by.false c.in-Some.ensures c.in-Some-moved.ensures c.put.ensures c.put-in-loop-at.ensures c.put-in-loop-at-2.ensures
