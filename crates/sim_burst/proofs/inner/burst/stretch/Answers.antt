use Rattle.sim_burst.proofs.Facts.Burst.{reached_start, reached_again, row_start, row_again}
use Rattle.sim_burst.proofs.inner.burst.stretch.Goals as goal

pub loop-at-init : goal.loop-at-init
loop-at-init g c = (reached_start _ _ _ _ _ _ _ c.requires, row_start _ _ _ _ c.row-row.ensures.0 c.row-row.ensures.1)

pub loop-at-preserved : goal.loop-at-preserved
loop-at-preserved g c = (
  reached_again _ _ _ _ _ _ _ _ _ c.loop-at.invariant.0 _ _ _ _ c.if-at-eq0.false c.if-at-by.false c.loop-at.invariant.1 c.wide.ensures.0
      c.in-Some.ensures (c.ordinary_by_entry.ensures.ordinary c.if-not-ordinary_by_entry.false _ _ _) c.in-Some-went.ensures,
  row_again _ _ _ _ c.in-Some.ensures _ _ _ c.in-Some-went.ensures,
)
