use mathlib.Core.Path.{refl}
use Rattle.capi_numbers.specs.Model.Answers.{with_five}
use Rattle.capi_numbers.proofs.parts.put_parts.Goals as goal

pub returns : goal.returns
unfolding with_five
returns c = (refl, cc)
