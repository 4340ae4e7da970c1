use Rattle.outcome.specs.declared.Refusal.TheVariants as Why
use Rattle.machine.specs.Model.Check.{entry_ok, entries_check}
use Rattle.machine.proofs.Facts.CheckCases.{scan_bad, scan_end}
use Rattle.machine.proofs.checks.check_entries.Goals as goal

pub returns-in-Some : goal.returns-in-Some
unfolding entries_check entry_ok
returns-in-Some c = search (scan_bad Why.Entry)

pub returns-in-None : goal.returns-in-None
unfolding entries_check entry_ok
returns-in-None c = search (scan_end Why.Entry)
