use Rattle.std.proofs.Common.{◌∙◌, ap, min, ◌+◌}
use Rattle.rle_stack.specs.Model.{Side, runs_fit, cells_of}
use Rattle.rle_counts.proofs.Facts.SumCases.{measure_places, measure_runs, measure_sum}
use Rattle.rle.proofs.inner.fits.measure.Goals as goal

pub returns-then-places-count : goal.returns-then-places-count
returns-then-places-count g c = measure_places _ _ _ _ c.if-places-count.true

pub returns-then-not-runs_fit : goal.returns-then-not-runs_fit
returns-then-not-runs_fit g c = measure_runs _ _ _ _ c.if-places-count.false _ (c.runs_fit.ensures ∙ ap (runs_fit c.args.k) c.side_to_read-side.ensures) (c.if-not-runs_fit.true)

pub returns : goal.returns
returns g c = measure_sum _ _ _ _ c.if-places-count.false _ (c.runs_fit.ensures ∙ ap (runs_fit c.args.k) c.side_to_read-side.ensures) (c.if-not-runs_fit.false) _ (c.cells.ensures ∙ ap (λ (x : Side). min (cells_of x) (c.args.most + 1)) c.side_to_read-side.ensures)
