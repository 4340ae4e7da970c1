use Rattle.capi_engines.specs.Model.Engines.{with_tape}
use mathlib.Core.Path.{refl}
use Rattle.capi_engines.proofs.put_tape.Goals as goal

pub returns : goal.returns
unfolding with_tape
returns c = refl
