use Rattle.rle_counts.proofs.Facts.WordCases.{sizes_left, sizes_right, sizes_runs}
use Rattle.rle_macro.proofs.inner.word.fresh_sizes.Goals as goal

pub returns-then-lefts-gt-RUNS : goal.returns-then-lefts-gt-RUNS
returns-then-lefts-gt-RUNS c = sizes_left _ _ _ c.if-lefts-gt-RUNS.true

pub returns-then-rights-gt-RUNS : goal.returns-then-rights-gt-RUNS
returns-then-rights-gt-RUNS c = sizes_right _ _ _ c.if-lefts-gt-RUNS.false c.if-rights-gt-RUNS.true

pub returns : goal.returns
returns c = sizes_runs _ _ _ c.if-lefts-gt-RUNS.false c.if-rights-gt-RUNS.false _ c.runs_in.ensures
