use Rattle.machine.proofs.Facts.CheckCases.{entry_past, entry_none, entry_some}
use Rattle.machine.proofs.inner.entry_at.Goals as goal

pub returns-then-table-i : goal.returns-then-table-i
returns-then-table-i c = search entry_past

pub returns-then-table-at-ne1 : goal.returns-then-table-at-ne1
returns-then-table-at-ne1 c = search entry_none

pub returns : goal.returns
returns c = search entry_some
