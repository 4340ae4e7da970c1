use Rattle.std.proofs.Common.{◌∙◌, ◌+◌, ◌*◌, refl, rules, arith}
use borrow.Author.Tests.{tests}
use Rattle.std.proofs.lemmas.Iterator.{YieldsList-from_range}
use Rattle.std.proofs.lemmas.Iterator.Search.{all_from_yields_List}
use Rattle.notation.proofs.Facts.Parts.{list_all-range}
use Rattle.table_text_rows.specs.Rows.{undefined_at, row_undefined}
use Rattle.table_text.proofs.writing.row_undefined.Goals as goal

pub returns : goal.returns
unfolding row_undefined
returns c =
    all_from_yields_List (undefined_at c.args.table.now) _ _ _ c.all.ensures.ran (YieldsList-from_range (c.args.q * c.args.symbols) (c.args.q * c.args.symbols + c.args.symbols) c.args.symbols refl (omega arith)) (λ x b q k. search (rules, tests))
    ∙ list_all-range _ _ _
