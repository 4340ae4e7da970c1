use Rattle.sim_burst.proofs.Facts.Burst.{reached_again, reached_on, row_start}
use Rattle.sim_burst.proofs.inner.burst.burst.Goals as goal

pub loop-at-preserved : goal.loop-at-preserved
loop-at-preserved g c =
    reached_again _ _ _ _ _ _ _ _ _ (reached_on _ _ _ _ _ _ _ _ _ c.loop-at.invariant _ _ c.stretch-at.ensures) _ _ _ _ c.if-at-eq0.false c.if-at-by.false
    (row_start _ _ _ _ c.row.ensures.0 c.row.ensures.1) c.wide.ensures.0 c.in-Some.ensures c.in-Some-ordinary.ensures c.in-Some-went.ensures
