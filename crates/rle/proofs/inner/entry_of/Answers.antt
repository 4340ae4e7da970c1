use Rattle.run_checks.proofs.Facts.LookCases.{entry_is}
use Rattle.rle.proofs.inner.entry_of.Goals as goal

pub returns : goal.returns
returns c = search entry_is
