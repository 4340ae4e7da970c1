use Rattle.run_checks.proofs.Facts.SizesCases.{words_several, words_number, words_compared}
use Rattle.run_checks.proofs.inner.words.words_right.Goals as goal

pub returns-then-m-ne1 : goal.returns-then-m-ne1
returns-then-m-ne1 c = search words_several

pub returns-then-words-count : goal.returns-then-words-count
returns-then-words-count c = search words_number

pub returns : goal.returns
returns c = search words_compared
