use Rattle.std.proofs.Common.{sym, ap, ◌∙◌, not, rules}
use borrow.Author.Tests.{tests}
use Rattle.std.proofs.lemmas.Iterator.{YieldsList-from_slice}
use Rattle.std.proofs.lemmas.Iterator.Search.{position_from_yields_List}
use Rattle.outcome.specs.declared.Refusal.TheVariants as Why
use Rattle.machine.specs.Model.Check.{answer_at}
use Rattle.alphabet.specs.Model.{symbol_for, allowed_on}
use Rattle.alphabet.proofs.Facts.EncodeCases.{place-check}
use Rattle.alphabet.proofs.check_glyphs.Goals as goal

pub returns-in-Some : goal.returns-in-Some
returns-in-Some c =
    let place = position_from_yields_List (λ g. not (allowed_on c.args.flags.now (symbol_for c.args.glyphs.now g))) _ _ _ c.position.ensures.ran (YieldsList-from_slice _ c.iter.ensures.rest) (λ x b q k. search (rules, tests)) in
    ap (answer_at Why.Glyph) (sym c.in-Some.is) ∙ place-check _ _ _ _ place

pub returns-in-None : goal.returns-in-None
returns-in-None c =
    let place = position_from_yields_List (λ g. not (allowed_on c.args.flags.now (symbol_for c.args.glyphs.now g))) _ _ _ c.position.ensures.ran (YieldsList-from_slice _ c.iter.ensures.rest) (λ x b q k. search (rules, tests)) in
    ap (answer_at Why.Glyph) (sym c.in-None.is) ∙ place-check _ _ _ _ place
