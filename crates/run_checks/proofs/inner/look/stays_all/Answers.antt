use Rattle.run_checks.specs.Model.Look.{stays_all}
use Rattle.notation.proofs.Facts.Tests.{tests, via}
use Rattle.run_checks.proofs.inner.look.stays_all.Goals as goal

pub returns-then-not-stays : goal.returns-then-not-stays
unfolding stays_all
returns-then-not-stays c = search (tests, via) depth 9

pub returns-then-not-stays-2 : goal.returns-then-not-stays-2
unfolding stays_all
returns-then-not-stays-2 c = search (tests, via) depth 9

pub returns-then-not-stays-3 : goal.returns-then-not-stays-3
unfolding stays_all
returns-then-not-stays-3 c = search (tests, via) depth 9

pub returns : goal.returns
unfolding stays_all
returns c = search (tests, via) depth 9
