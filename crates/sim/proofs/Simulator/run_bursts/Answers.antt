use Rattle.std.proofs.Common.{rules}
use native.Mathlib.Omega.{arith}
use Rattle.sim.specs.Model.Engine.{task}
use Rattle.sim.proofs.Facts.TurnCases.{loop_stop, loop_ok, loop_pos, loop_last, loop_next}
use Rattle.sim.proofs.Facts.BurstCases.{same_run_inv}
use Rattle.sim.proofs.Simulator.run_bursts.Goals as goal

pub decide-choice-requires : goal.decide-choice-requires
decide-choice-requires c = (same_run_inv _ _ _ _ _ _ _ _ _ _ _ _ c.loop-outcome.invariant _ _ _ _ _ _ c.stop_of-stop.ensures c.burst-ahead.ensures).now_ok.ok

pub returns-in-Break : goal.returns-in-Break
returns-in-Break c = loop_stop _ _ _ _ _ _ _ c.decide-choice.ensures _ _ c.in-Break.is (same_run_inv _ _ _ _ _ _ _ _ _ _ _ _ c.loop-outcome.invariant _ _ _ _ _ _ c.stop_of-stop.ensures c.burst-ahead.ensures).same

pub advance-next-requires : goal.advance-next-requires
advance-next-requires c = loop_ok (task _ _ _ c.args.job.rule) _ _ _ _ _ _ c.decide-choice.ensures _ c.in-Continue.is _ (same_run_inv _ _ _ _ _ _ _ _ _ _ _ _ c.loop-outcome.invariant _ _ _ _ _ _ c.stop_of-stop.ensures c.burst-ahead.ensures).now_ok

pub returns-then-matches : goal.returns-then-matches
returns-then-matches c = loop_last _ _ _ _ _ _ _ c.decide-choice.ensures _ c.in-Continue.is _ _ _ _ c.advance-next.ensures _ c.matches.ensures _ _ _ c.if-matches.true c.stopped.ensures.0 c.stopped.ensures.1 (same_run_inv _ _ _ _ _ _ _ _ _ _ _ _ c.loop-outcome.invariant _ _ _ _ _ _ c.stop_of-stop.ensures c.burst-ahead.ensures).same

pub overflow_sub-left : goal.overflow_sub-left
overflow_sub-left c = loop_pos (task _ _ _ c.args.job.rule) _ _ _ _ _ _ c.decide-choice.ensures _ c.in-Continue.is

pub loop-outcome-smaller : goal.loop-outcome-smaller
loop-outcome-smaller c = let h = loop_pos (task _ _ _ c.args.job.rule) _ _ _ _ _ _ c.decide-choice.ensures _ c.in-Continue.is in omega (arith, c.burst-ahead.ensures.less)

pub loop-outcome-preserved : goal.loop-outcome-preserved
loop-outcome-preserved c = loop_next _ _ _ _ _ _ _ c.decide-choice.ensures _ c.in-Continue.is _ _ _ _ c.advance-next.ensures _ c.matches.ensures _ _ _ (same_run_inv _ _ _ _ _ _ _ _ _ _ _ _ c.loop-outcome.invariant _ _ _ _ _ _ c.stop_of-stop.ensures c.burst-ahead.ensures) c.if-matches.false (search rules) (search rules) (search rules)
