use mathlib.Core.Path.{refl}
use Rattle.capi_engines.specs.Model.Engines.{with_times}
use Rattle.capi_engines.proofs.put_times.Goals as goal

pub returns : goal.returns
unfolding with_times
returns c = refl
