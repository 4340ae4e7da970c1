use Rattle.run_checks.specs.Model.Sizes.{fresh_sizes}
use Rattle.notation.proofs.Facts.Tests.{tests, via}
use Rattle.run_checks.proofs.inner.sizes.fresh_sizes.Goals as goal

pub returns-then-not-between : goal.returns-then-not-between
unfolding fresh_sizes
returns-then-not-between c = search (tests, via)

pub returns-then-not-blank_fits : goal.returns-then-not-blank_fits
unfolding fresh_sizes
returns-then-not-blank_fits c = search (tests, via)

pub returns : goal.returns
unfolding fresh_sizes
returns c = search (tests, via)
