use mathlib.Core.Path.{sym, ◌∙◌, ap}
use native.Mathlib.Omega.{arith}
use native.Mathlib.Nat.{sub-zero}
use Rattle.notation.proofs.Facts.Scan.{all_hit, all_next, all_end}
use Rattle.rle_stack.specs.Model.{Side, runs_fit}
use Rattle.rle_stack.proofs.inner.Runs.runs_fit.Goals as goal

pub loop-i-init : goal.loop-i-init
unfolding runs_fit
loop-i-init g c = rw sub-zero

pub returns-then-not-run_fits : goal.returns-then-not-run_fits
returns-then-not-run_fits g c = all_hit _ _ _ _ c.loop-i.invariant (omega (arith, ap (λ (x : Side). x.count) c.self.view_is)) (sym c.run_fits.ensures ∙ c.if-not-run_fits.true)

pub loop-i-preserved : goal.loop-i-preserved
loop-i-preserved g c = all_next _ _ _ _ c.loop-i.invariant (omega (arith, ap (λ (x : Side). x.count) c.self.view_is)) (sym c.run_fits.ensures ∙ c.if-not-run_fits.false)

pub returns : goal.returns
returns g c = all_end _ _ _ _ c.loop-i.invariant (omega (arith, ap (λ (x : Side). x.count) c.self.view_is))
