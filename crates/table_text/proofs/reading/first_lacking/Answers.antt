use Rattle.std.proofs.Common.{sym, ◌∙◌, not, length, refl, rules, arith}
use borrow.Author.Tests.{tests}
use Rattle.std.proofs.lemmas.Iterator.{YieldsList-from_range}
use Rattle.std.proofs.lemmas.Iterator.Search.{find_from_yields_List}
use Rattle.std.proofs.lemmas.Iterator.Adapters.{option_map_id}
use Rattle.notation.proofs.Facts.Parts.{find-range}
use Rattle.table_text_reader.specs.Reading.{has_byte}
use Rattle.table_text.proofs.reading.first_lacking.Goals as goal

pub returns : goal.returns
returns c =
    let a = c.args in
    sym (option_map_id _)
    ∙ find_from_yields_List (λ i. not (has_byte a.rows a.symbols a.line.now i)) _ _ _ c.find.ensures.ran (YieldsList-from_range 0 (length a.line.now) (length a.line.now) refl (omega arith)) (λ x b q k. search (rules, tests))
    ∙ find-range _ _ _
