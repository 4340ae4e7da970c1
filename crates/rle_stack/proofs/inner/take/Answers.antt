use Rattle.rle_stack.proofs.Facts.SideCases.{take_none, take_whole, take_part}
use Rattle.rle_stack.proofs.inner.take.Goals as goal

pub returns-then-count-eq0 : goal.returns-then-count-eq0
returns-then-count-eq0 c = λ ss. search take_none

pub returns-then-left-eq0 : goal.returns-then-left-eq0
returns-then-left-eq0 c = λ ss. search take_whole

pub returns : goal.returns
returns c = λ ss. search take_part
