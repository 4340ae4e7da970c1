use Rattle.std.proofs.Common.{◌∙◌, leb, rules}
use borrow.Author.Tests.{tests}
use Rattle.std.proofs.lemmas.Iterator.{YieldsList-from_slice}
use Rattle.std.proofs.lemmas.Iterator.Search.{position_from_yields_List}
use Rattle.notation.proofs.Facts.Parts.{position-scan}
use Rattle.table_bytes.proofs.Facts.EntryCases.{leb_not}
use Rattle.table_bytes.proofs.inner.first_over.Goals as goal

pub returns : goal.returns
returns c =
    position_from_yields_List (leb c.args.k) _ _ _ c.position.ensures.ran (YieldsList-from_slice _ c.iter.ensures.rest) (λ x b q k. search (rules, tests))
    ∙ position-scan _ _ _ (λ j h. leb_not _ _)
