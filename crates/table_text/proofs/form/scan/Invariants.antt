use Rattle.std.proofs.Common.{◌≡◌, drop}
use Rattle.table_text_form.specs.Form.{scan, form_of}
use Rattle.table_text_form.proofs.Facts.Good.{Good}
use Rattle.table_text.proofs.form.scan.Given as goal

abbrev pub invariant-loop-i : goal.invariant-loop-i
invariant-loop-i l = Good l.at × (scan (drop l.i l.line) l.at l.i ≡ form_of l.line)
