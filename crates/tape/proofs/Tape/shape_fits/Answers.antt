use Rattle.notation.proofs.Facts.Tests.{tests}
use Rattle.tape.proofs.Tape.shape_fits.Goals as goal

pub returns-then-self-lt32 : goal.returns-then-self-lt32
returns-then-self-lt32 c = search tests depth 9

pub returns-then-cap-self : goal.returns-then-cap-self
returns-then-cap-self c = search tests depth 9

pub returns-then-self : goal.returns-then-self
returns-then-self c = search tests depth 9

pub returns-then-self-2 : goal.returns-then-self-2
returns-then-self-2 c = search tests depth 9

pub returns-then-self-3 : goal.returns-then-self-3
returns-then-self-3 c = search tests depth 9

pub returns-then-self-4 : goal.returns-then-self-4
returns-then-self-4 c = search tests depth 9

pub returns : goal.returns
returns c = search tests depth 9
