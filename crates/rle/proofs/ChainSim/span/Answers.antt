use mir.ValLaws.{to_z-of_z}
use mir.Syntax.{w64}
use Rattle.rle.proofs.Facts.QuestionCases.{span_empty, span_cells}
use Rattle.rle.proofs.ChainSim.span.Goals as goal

pub returns-then-blank : goal.returns-then-blank
returns-then-blank c = span_empty _ _ (c.blank.ensures c.args.ls.now c.args.ll.now c.args.rs.now c.args.rl.now) c.if-blank.true

pub returns : goal.returns
returns c = rw (to_z-of_z w64 c.signed-from.result (record { sfits = c.signed-from.type_inv }), to_z-of_z w64 c.signed-to.result (record { sfits = c.signed-to.type_inv })) (span_cells _ _ (c.blank.ensures c.args.ls.now c.args.ll.now c.args.rs.now c.args.rl.now) c.if-blank.false _ _ _ _ c.lowest_cell.ensures c.highest_cell.ensures c.signed-from.ensures c.signed-to.ensures)
