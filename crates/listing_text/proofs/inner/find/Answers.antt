use Rattle.std.proofs.Common.{sym, ◌∙◌, eqb, rules}
use borrow.Author.Tests.{tests}
use Rattle.std.proofs.lemmas.Iterator.{YieldsList-from_slice}
use Rattle.std.proofs.lemmas.Iterator.Search.{position_from_yields_List}
use Rattle.listing_text.proofs.Facts.Library.{position-found, position-missing}
use Rattle.listing_text.proofs.inner.find.Goals as goal

pub returns-in-Some : goal.returns-in-Some
returns-in-Some c =
    let e = position_from_yields_List (λ b. eqb b c.args.sep) _ _ _ c.position.ensures.ran (YieldsList-from_slice _ c.iter.ensures.rest) (λ x b q k. search (rules, tests)) in
    position-found c.args.s.now c.args.at c.args.sep c.requires c.in-Some.i (sym e ∙ c.in-Some.is)

pub returns-in-None : goal.returns-in-None
returns-in-None c =
    let e = position_from_yields_List (λ b. eqb b c.args.sep) _ _ _ c.position.ensures.ran (YieldsList-from_slice _ c.iter.ensures.rest) (λ x b q k. search (rules, tests)) in
    position-missing c.args.s.now c.args.at c.args.sep c.requires (sym e ∙ c.in-None.is)
