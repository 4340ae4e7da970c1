use Rattle.std.proofs.Common.{sym, ◌∙◌, arith}
use Rattle.notation.proofs.Facts.Scan.{first_next}
use Rattle.symbol.proofs.Facts.Found.{first_found, first_nowhere}
use Rattle.table_bytes.proofs.inner.first_bad.Goals as goal

pub returns-then-not-entry_ok : goal.returns-then-not-entry_ok
returns-then-not-entry_ok c = first_found _ _ _ _ c.loop-i.invariant (omega arith) (sym c.entry_ok.ensures ∙ c.if-not-entry_ok.true)

pub loop-i-preserved : goal.loop-i-preserved
loop-i-preserved c = first_next _ _ _ _ c.loop-i.invariant (omega arith) (sym c.entry_ok.ensures ∙ c.if-not-entry_ok.false)

pub returns : goal.returns
returns c = search first_nowhere
