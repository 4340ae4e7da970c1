use Rattle.rle_macro.proofs.Facts.QuestionCases.{cell_head, cell_left, cell_right}
use Rattle.rle_macro.proofs.inner.questions.Tape.cell.Goals as goal

pub returns-then-raised-self : goal.returns-then-raised-self
returns-then-raised-self c = cell_head _ _ _ _ _ c.if-raised-self.true

pub returns-then-raised-self-2 : goal.returns-then-raised-self-2
returns-then-raised-self-2 c = cell_left _ _ _ _ _ c.if-raised-self.false c.if-raised-self-2.true _ c.symbol_at.ensures

pub returns-else-raised-self-2 : goal.returns-else-raised-self-2
returns-else-raised-self-2 c = cell_right _ _ _ _ _ c.if-raised-self.false c.if-raised-self-2.false _ c.symbol_at-else-raised-self-2.ensures
