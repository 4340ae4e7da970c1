use Rattle.notation.proofs.Facts.Exit.{exit}
use mathlib.Core.Path.{◌∙◌}
use Rattle.alphabet.proofs.Facts.EncodeCases.{encodes_refused, encodes_short, encodes_whole}
use Rattle.alphabet.proofs.encode.Goals as goal

pub returns-in_err-check_glyphs : goal.returns-in_err-check_glyphs
returns-in_err-check_glyphs c =
    let p = encodes_refused _ _ _ _ _ c.check_glyphs.ensures _ c.in_err-check_glyphs.was in
    (exit _ _ c.from_residual.ensures.1 ∙ p.answer, p.holds)

pub returns-then-out-word : goal.returns-then-out-word
returns-then-out-word c =
    let p = encodes_short _ _ _ _ _ c.check_glyphs.ensures c.in_ok-check_glyphs.was c.if-out-word.true in
    (p.answer, p.holds)

pub returns : goal.returns
returns c =
    let p = encodes_whole _ _ _ _ _ c.check_glyphs.ensures _ c.in_ok-check_glyphs.was c.if-out-word.false c.write_symbols.ensures in
    (p.answer, p.holds)
