use Rattle.std.specs.Prelude.{◌≡◌, eqb, None, Option, Some}
use Rattle.std.specs.Option.{option_eq}
use Rattle.std.proofs.Common.{◌∙◌}
use Rattle.symbol.specs.declared.State.{State}
use Rattle.run_rules.specs.Model.Task.{matches}
use mathlib.Core.Path.{refl}
use Rattle.run_rules.proofs.inner.matches.Goals as goal

matches_equal : (rule : Option State) (q : State) → option_eq (λ x y. eqb x.0 y.0) rule (Some q) ≡ matches rule q
unfolding matches
matches_equal None q = refl
matches_equal (Some p) q = refl

pub returns : goal.returns
returns c = c.eq.ensures ∙ matches_equal _ _
