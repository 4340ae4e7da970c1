use Rattle.std.proofs.Common.{◌∙◌, refl, rules, arith}
use borrow.Author.Tests.{tests}
use Rattle.std.proofs.lemmas.Iterator.{YieldsList-from_range}
use Rattle.std.proofs.lemmas.Iterator.Search.{all_from_yields_List}
use Rattle.notation.proofs.Facts.Parts.{list_all-range}
use Rattle.table_text_rows.specs.Rows.{row_defined}
use Rattle.table_text.proofs.writing.rows_defined.Goals as goal

pub returns : goal.returns
returns c =
    all_from_yields_List (row_defined c.args.symbols c.args.table.now) _ _ _ c.all.ensures.ran (YieldsList-from_range 0 c.args.count c.args.count refl (omega arith)) (λ x b q k. search (rules, tests))
    ∙ list_all-range _ _ _
