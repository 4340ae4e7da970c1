use Rattle.run_checks.proofs.Facts.LookCases.{choice_halt, choice_never, choice_go}
use Rattle.run_checks.proofs.inner.look.decide.Goals as goal

pub returns-in-Halt : goal.returns-in-Halt
returns-in-Halt c = choice_halt _ _ _ _ _ _ _ _ _ _ c.see-seen.ensures c.in-Halt.is

pub returns-in-Never : goal.returns-in-Never
returns-in-Never c = choice_never _ _ _ _ _ _ _ _ _ _ c.see-seen.ensures _ c.in-Never.is

pub returns-in-Go : goal.returns-in-Go
returns-in-Go c = choice_go _ _ _ _ _ _ _ _ _ _ c.see-seen.ensures _ _ _ c.rooms.ensures c.go.ensures c.in-Go.is
