use Rattle.std.proofs.Common.{◌≡◌, sym, ap, ◌∙◌, eqb, None, rules, refl}
use borrow.Author.Tests.{tests}
use Rattle.std.proofs.lemmas.Iterator.{YieldsList-from_slice}
use Rattle.std.proofs.lemmas.Iterator.Search.{position_from_yields_List}
use Rattle.alphabet.specs.Model.{named}
use Rattle.alphabet.proofs.Facts.EncodeCases.{place-searched}
use Rattle.alphabet.proofs.symbol_for.Goals as goal

pub returns : goal.returns
returns c =
    let place = position_from_yields_List (λ g. eqb g c.args.glyph) _ _ _ c.position.ensures.ran (YieldsList-from_slice c.iter.result.rest.now refl) (λ x b q k. search (rules, tests)) in
    ap named (sym c.in_ok-place.was) ∙ place-searched c.args.glyphs.now _ _ c.min-most.result c.iter.result.rest.now place c.min-most.ensures (search (rules, c.iter.ensures.rest))

pub returns-in_err-place : goal.returns-in_err-place
returns-in_err-place c =
    let place = position_from_yields_List (λ g. eqb g c.args.glyph) _ _ _ c.position.ensures.ran (YieldsList-from_slice c.iter.result.rest.now refl) (λ x b q k. search (rules, tests)) in
    let none : c.from_residual.result ≡ None = search rules in
    none ∙ ap named (sym c.in_err-place.was) ∙ place-searched c.args.glyphs.now _ _ c.min-most.result c.iter.result.rest.now place c.min-most.ensures (search (rules, c.iter.ensures.rest))
