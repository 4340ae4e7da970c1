use Rattle.capi_numbers.specs.Model.Answers.{with_five}
use mathlib.Core.Path.{refl}
use Rattle.capi_numbers.proofs.answers.put_values.Goals as goal

pub returns : goal.returns
unfolding with_five
returns c = refl
