use Rattle.notation.proofs.Facts.Fill.{fill_end}
use Rattle.alphabet.proofs.write_symbols.Goals as goal

pub returns : goal.returns
returns c = search fill_end
