use Rattle.std.proofs.Common.{ap, not}
use native.Mathlib.Omega.{arith}
use Rattle.rle_stack.specs.Written.{held}
use Rattle.rle_stack.proofs.Facts.Sides.{ahead_within}
use Rattle.rle_macro.proofs.Facts.MacroStepCases.{reach_all, reach_one, reach_chain}
use Rattle.rle_macro.proofs.inner.macro_step.reach.Goals as goal

pub returns-then-loops : goal.returns-then-loops
returns-then-loops c = search reach_all

pub returns-then-not-keeps : goal.returns-then-not-keeps
returns-then-not-keeps c = search reach_one

pub overflow_add-run : goal.overflow_add-run
overflow_add-run c = omega (arith, c.requires, c.ahead-run.ensures, ahead_within c.args.cur (held c.args.side.now))

pub returns : goal.returns
returns c = reach_chain _ _ _ _ _ c.if-loops.false (ap not c.if-not-keeps.false) _ _ c.ahead-run.ensures c.min.ensures
