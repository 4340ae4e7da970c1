use Rattle.listing_lines.proofs.Facts.FormCases.{WordInv}
use Rattle.listing_lines.proofs.inner.read_word.Given as goal

abbrev pub invariant-loop-i : goal.invariant-loop-i
invariant-loop-i v = WordInv v.k v.l v.initial.word v.n v.word v.i
