use Rattle.notation.proofs.Facts.Fill.{fill_end}
use Rattle.machine.proofs.inner.pack_entries.Goals as goal

pub returns : goal.returns
returns c = search fill_end
