use Rattle.outcome.specs.declared.Refusal.TheVariants as Why
use Rattle.machine.specs.Model.Word.{symbols_check}
use Rattle.machine.proofs.Facts.CheckCases.{scan_bad, scan_end}
use Rattle.machine.proofs.word.check_symbols.Goals as goal

pub returns-in-Some : goal.returns-in-Some
unfolding symbols_check
returns-in-Some c = search (scan_bad Why.WordSymbol)

pub returns-in-None : goal.returns-in-None
unfolding symbols_check
returns-in-None c = search (scan_end Why.WordSymbol)
