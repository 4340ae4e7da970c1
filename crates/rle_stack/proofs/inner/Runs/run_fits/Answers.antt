use Rattle.std.proofs.Common.{sym, ◌∙◌}
use Rattle.rle_stack.proofs.Facts.SideCases.{run_empty, run-over, run_rest}
use Rattle.rle_stack.proofs.inner.Runs.run_fits.Goals as goal

pub returns-then-at-eq0 : goal.returns-then-at-eq0
returns-then-at-eq0 g c = rw (← c.self.view_is) (run_empty _ _ _ _ (sym c.at.ensures ∙ c.if-at-eq0.true))

pub returns-then-k-from : goal.returns-then-k-from
returns-then-k-from g c = rw (← c.self.view_is) (run-over _ _ _ _ _ c.from.ensures (λ e. c.if-at-eq0.false (c.at.ensures ∙ e)) c.if-k-from.true)

pub returns : goal.returns
returns g c =
    rw (← c.self.view_is) (run_rest _ _ _ _ _ _ c.from.ensures c.top.ensures (λ e. c.if-at-eq0.false (c.at.ensures ∙ e)) c.if-k-from.false)
