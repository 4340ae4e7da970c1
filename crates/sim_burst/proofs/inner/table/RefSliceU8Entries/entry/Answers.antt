use Rattle.sim_burst.proofs.Facts.BurstCases.{table_entry}
use Rattle.sim_burst.proofs.inner.table.RefSliceU8Entries.entry.Goals as goal

pub returns : goal.returns
returns c = search table_entry
