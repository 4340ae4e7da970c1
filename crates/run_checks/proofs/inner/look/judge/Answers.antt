use Rattle.std.proofs.Common.{rules}
use Rattle.run_checks.proofs.Facts.LookCases.{judge_off, judge_leaves, judge_loop}
use Rattle.run_checks.proofs.inner.look.judge.Goals as goal

pub returns-then-not-proves : goal.returns-then-not-proves
returns-then-not-proves c = judge_off _ _ _ _ _ _ _ _ (c.if-not-proves.true)

pub returns-then-ne : goal.returns-then-ne
returns-then-ne c = judge_leaves _ _ _ _ _ _ _ _ (c.if-not-proves.false) (search rules)

pub returns : goal.returns
returns c = judge_loop _ _ _ _ _ _ _ _ _ c.loop_of.ensures (c.if-not-proves.false) (search rules)
