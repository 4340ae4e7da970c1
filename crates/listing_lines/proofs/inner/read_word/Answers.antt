use Rattle.std.proofs.Common.{rules}
use Rattle.listing_lines.proofs.Facts.FormCases.{below_256, word_none, word-start, word_bad, word_next_holds, word_end}
use Rattle.listing_lines.proofs.inner.read_word.Goals as goal

pub returns-then-l-eq0 : goal.returns-then-l-eq0
returns-then-l-eq0 c = search (rules, word_none)

pub loop-i-init : goal.loop-i-init
loop-i-init c = search (rules, word-start)

pub returns-in_err-a : goal.returns-in_err-a
returns-in_err-a c = rw c.from_residual.ensures (search (rules, word_bad, c.in_err-a.was))

pub narrow-requires : goal.narrow-requires
narrow-requires c = search (below_256, c.in_ok-a.was)

pub loop-i-preserved : goal.loop-i-preserved
loop-i-preserved c = search (rules, word_next_holds, c.in_ok-a.was)

pub returns : goal.returns
returns c = search (rules, word_end)
