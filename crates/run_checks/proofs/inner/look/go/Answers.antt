use Rattle.run_checks.proofs.Facts.LookCases.{go_fuel, go_on, go_full}
use Rattle.run_checks.proofs.inner.look.go.Goals as goal

pub returns-then-left-eq0 : goal.returns-then-left-eq0
returns-then-left-eq0 c = go_fuel _ _ _ _ c.if-left-eq0.true

pub returns-then-roomy : goal.returns-then-roomy
returns-then-roomy c = go_on _ _ _ _ c.if-left-eq0.false c.if-roomy.true

pub returns : goal.returns
returns c = go_full _ _ _ _ c.if-left-eq0.false c.if-roomy.false
