-- The outcome of an advance whose run is out of fuel, and of any other. Assumes nothing.
use Rattle.std.specs.Prelude.{◌≡◌, true, false}
use Rattle.std.proofs.Common.{ap}
use Rattle.outcome.specs.declared.Outcome.{Outcome}
use Rattle.timeline_rule.specs.Model.Kind.{spent, verdict_if, verdict_or}

pub spent_verdict : (o v : Outcome) → spent o ≡ true → verdict_or o v ≡ v
spent_verdict o v e = ap (λ b. verdict_if b o v) e

pub other_verdict : (o v : Outcome) → spent o ≡ false → verdict_or o v ≡ o
other_verdict o v e = ap (λ b. verdict_if b o v) e
