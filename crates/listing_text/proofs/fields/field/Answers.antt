use Rattle.std.proofs.Common.{◌∙◌, ap, eqb, refl, rules}
use borrow.Author.Tests.{tests}
use Rattle.std.proofs.lemmas.Iterator.Consumers.{nth_from_yields_List}
use Rattle.std.proofs.lemmas.Iterator.Splits.{YieldsList-from_slice_split}
use Rattle.listing_text.proofs.Facts.Library.{nth-field}
use Rattle.listing_text.proofs.fields.field.Goals as goal

pub returns : goal.returns
returns c =
    let s = c.split.ensures in
    ap (λ x. x.now) c.unwrap_or.ensures
    ∙ nth-field c.args.l.now c.args.k _ _ refl (nth_from_yields_List _ _ _ c.nth.ensures.ran (YieldsList-from_slice_split _ (λ b. eqb b 32) _ s.rest s.done s.closure (λ x b q k. search (rules, tests))))
