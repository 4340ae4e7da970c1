use Rattle.run_checks.proofs.Facts.LookCases.{look_halt, look_judged}
use Rattle.run_checks.proofs.inner.look.see.Goals as goal

pub returns-in-None : goal.returns-in-None
returns-in-None c = look_halt _ _ _ _ _ _ _ _ _ _ _ c.entry_of-found.ensures c.read-r0.ensures c.read-r1.ensures c.read-r2.ensures c.in-None.is

pub returns-in-Some : goal.returns-in-Some
returns-in-Some c = look_judged _ _ _ _ _ _ _ _ _ _ _ c.entry_of-found.ensures c.read-r0.ensures c.read-r1.ensures c.read-r2.ensures _ _ c.judge.ensures c.in-Some.is
