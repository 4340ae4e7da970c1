use native.Mathlib.Omega.{arith}
use Rattle.sim_burst_wide.proofs.Facts.BurstCases.{decoded_entry}
use Rattle.sim_burst_wide.proofs.inner.entry.Goals as goal

pub returns : goal.returns
returns c = decoded_entry _ _ _ (omega (arith, c.if-table-i.false)) c.if-table-at-ne1.false _ _ c.pair-next.ensures c.may_loop.ensures c.if-may_loop.false
