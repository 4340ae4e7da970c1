use mir.ValLaws.{to_z-of_z}
use mir.Syntax.{w64}
use Rattle.tape.proofs.Facts.QuestionCases.{span_none, span_no_last, span_cells}
use Rattle.tape.proofs.inner.view.span.Goals as goal

pub returns-in_err-i : goal.returns-in_err-i
returns-in_err-i c = rw c.from_residual.ensures (span_none _ _ _ c.in_err-i.was)

pub returns-in_err-j : goal.returns-in_err-j
returns-in_err-j c = rw c.from_residual-in_err-j.ensures (span_no_last _ _ _ _ c.in_ok-i.was c.in_err-j.was)

pub returns : goal.returns
returns c =
    rw (to_z-of_z w64 c.of_index-from.result (record { sfits = c.of_index-from.type_inv }), to_z-of_z w64 c.of_index-to.result (record { sfits = c.of_index-to.type_inv }))
    (span_cells _ _ _ _ _ _ _ c.in_ok-i.was c.in_ok-j.was c.of_index-from.ensures c.of_index-to.ensures)
