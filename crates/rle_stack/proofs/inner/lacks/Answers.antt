use Rattle.rle_stack.proofs.Facts.SideCases.{lacks_room, lacks_full}
use Rattle.rle_stack.proofs.inner.lacks.Goals as goal

pub returns-then-count-places : goal.returns-then-count-places
returns-then-count-places c = λ ls. search lacks_room

pub returns : goal.returns
returns c = λ ls. lacks_full _ _ _ _ _ _ c.top.ensures c.if-count-places.false
