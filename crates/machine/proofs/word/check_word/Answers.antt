use Rattle.machine.specs.Model.Word.{word_check}
use Rattle.notation.proofs.Facts.Tests.{tests}
use Rattle.machine.proofs.word.check_word.Goals as goal

pub returns-then-word-gt-WORD : goal.returns-then-word-gt-WORD
unfolding word_check
returns-then-word-gt-WORD c = search tests

pub returns : goal.returns
unfolding word_check
returns c = search tests
