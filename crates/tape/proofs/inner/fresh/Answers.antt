use Rattle.tape.proofs.Facts.MoveCases.{fresh-held}
use Rattle.tape.proofs.inner.fresh.Goals as goal

pub returns : goal.returns
returns c = fresh-held _ _ _ c.fresh.ensures
