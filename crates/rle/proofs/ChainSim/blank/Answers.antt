use Rattle.rle.proofs.Facts.QuestionCases.{blank_cur, blank_left, blank_right}
use Rattle.rle.proofs.ChainSim.blank.Goals as goal

pub returns-then-tape-ne0 : goal.returns-then-tape-ne0
returns-then-tape-ne0 c = λ ls ll rs rl. blank_cur _ _ _ _ _ c.if-tape-ne0.true

pub returns-then-tape-ne0-2 : goal.returns-then-tape-ne0-2
returns-then-tape-ne0-2 c = λ ls ll rs rl. blank_left _ _ _ _ _ c.if-tape-ne0.false c.if-tape-ne0-2.true

pub returns : goal.returns
returns c = λ ls ll rs rl. blank_right _ _ _ _ _ c.if-tape-ne0.false c.if-tape-ne0-2.false
