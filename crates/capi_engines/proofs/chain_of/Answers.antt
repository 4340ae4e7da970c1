use mathlib.Core.Path.{refl}
use Rattle.capi_engines.specs.Model.Engines.{chain_of}
use Rattle.capi_engines.proofs.chain_of.Goals as goal

pub returns : goal.returns
unfolding chain_of
returns c = refl
