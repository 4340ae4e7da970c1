use Rattle.run_checks.specs.Model.Look.{stays}
use mathlib.Core.Path.{refl}
use Rattle.run_checks.proofs.inner.look.stays.Goals as goal

pub returns-in-L : goal.returns-in-L
unfolding stays
returns-in-L c = rw c.in-L.is refl

pub returns-in-R : goal.returns-in-R
unfolding stays
returns-in-R c = rw c.in-R.is refl

pub returns-in-N : goal.returns-in-N
unfolding stays
returns-in-N c = rw c.in-N.is refl
