use Rattle.notation.specs.Choice.{pick}
use borrow.Author.Tests.{eq-eqb, ne_eqb}
use Rattle.capi_numbers.specs.Model.Parts.{entry_of}
use mathlib.Core.Path.{refl}
use Rattle.capi_numbers.proofs.parts.entry_of.Goals as goal

pub returns-then-defined-eq0 : goal.returns-then-defined-eq0
unfolding entry_of pick
returns-then-defined-eq0 c = rw (eq-eqb _ 0 c.if-defined-eq0.true) refl

pub returns : goal.returns
unfolding entry_of pick
returns c = rw (ne_eqb _ 0 c.if-defined-eq0.false) (cc)
