use Rattle.rle_macro.proofs.Facts.QuestionCases.{count_blank, count_one}
use Rattle.rle_macro.proofs.inner.questions.count.Goals as goal

pub returns-then-tape-eq0 : goal.returns-then-tape-eq0
returns-then-tape-eq0 c = count_blank _ _ _ _ _ c.written-lefts.ensures.0 c.written-rights.ensures.0 c.if-tape-eq0.true

pub returns : goal.returns
returns c = count_one _ _ _ _ _ c.written-lefts.ensures.0 c.written-rights.ensures.0 c.if-tape-eq0.false
