use mathlib.Core.Path.{refl}
use Rattle.capi_engines.specs.Model.Engines.{with_chain}
use Rattle.capi_engines.proofs.put_chain.Goals as goal

pub returns : goal.returns
unfolding with_chain
returns c = refl
