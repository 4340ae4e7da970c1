use mathlib.Core.Path.{refl}
use Rattle.capi_engines.specs.Model.Engines.{times_from}
use Rattle.capi_engines.proofs.times_of.Goals as goal

pub returns : goal.returns
unfolding times_from
returns c = refl
