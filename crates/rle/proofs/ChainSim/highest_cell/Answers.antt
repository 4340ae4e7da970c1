use Rattle.std.proofs.Common.{◌∙◌, ap, subst, sym, min, ◌+◌, ◌<◌}
use native.Mathlib.Omega.{arith}
use Rattle.notation.specs.Limits.{slack, raised_zero}
use Rattle.rle_stack.specs.Model.{Side, cells_of, near_of}
use Rattle.rle.specs.Model.Engine.{conf}
use Rattle.rle.proofs.Facts.QuestionCases.{highest_right, highest_head, highest_left, some_on_left}
use Rattle.rle.proofs.ChainSim.highest_cell.Goals as goal

pub returns-then-tape-ne0 : goal.returns-then-tape-ne0
returns-then-tape-ne0 c = highest_right (conf c.args.self c.args.ls.now c.args.ll.now c.args.rs.now c.args.rl.now) c.requires.0 c.requires.1 c.if-tape-ne0.true _ (c.cells.ensures ∙ ap (λ (x : Side). min (cells_of x) (c.args.self.steps + slack + 1)) c.side_to_read-rights.ensures)

pub returns-then-tape-ne0-2 : goal.returns-then-tape-ne0-2
returns-then-tape-ne0-2 c = highest_head (conf c.args.self c.args.ls.now c.args.ll.now c.args.rs.now c.args.rl.now) c.requires.0 c.requires.1 c.if-tape-ne0.false c.if-tape-ne0-2.true

pub near-requires : goal.near-requires
near-requires c =
    subst (λ (x : Side). (0 < x.count) × (cells_of x < raised_zero)) (sym c.side_to_read-lefts.ensures)
    (some_on_left (conf c.args.self c.args.ls.now c.args.ll.now c.args.rs.now c.args.rl.now) c.requires.0 c.requires.1 c.if-tape-ne0.false c.if-tape-ne0-2.false, omega (arith, c.requires.0.sides.left.cells_in, c.requires.0.counts.steps_in))

pub returns : goal.returns
returns c = highest_left (conf c.args.self c.args.ls.now c.args.ll.now c.args.rs.now c.args.rl.now) c.requires.0 c.requires.1 c.if-tape-ne0.false c.if-tape-ne0-2.false _ (c.near.ensures.0 ∙ ap near_of c.side_to_read-lefts.ensures)
