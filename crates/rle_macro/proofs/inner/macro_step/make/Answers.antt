use Rattle.notation.proofs.Facts.Tests.{tests}
use Rattle.rle_macro.proofs.Facts.MacroStepCases.{make_left, make_right, make_stays}
use Rattle.rle_macro.proofs.inner.macro_step.make.Goals as goal

pub returns-in-L-clause-made : goal.returns-in-L-clause-made
returns-in-L-clause-made c = make_left _ _ _ _ _ _ _ _ c.go.ensures.gone c.in-L.is

pub returns-in-R-clause-made : goal.returns-in-R-clause-made
returns-in-R-clause-made c = make_right _ _ _ _ _ _ _ _ c.go-in-R.ensures.gone c.in-R.is

pub returns-then-s-clause-made : goal.returns-then-s-clause-made
returns-then-s-clause-made c = make_stays _ _ _ _ _ _ _ _ (search tests) c.in-N.is

pub returns-else-s-clause-made : goal.returns-else-s-clause-made
returns-else-s-clause-made c = make_stays _ _ _ _ _ _ _ _ (search tests) c.in-N.is
