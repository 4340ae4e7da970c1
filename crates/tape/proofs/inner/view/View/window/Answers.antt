use mir.ValLaws.{to_z-of_z}
use Rattle.tape.proofs.Facts.QuestionCases.{window_is}
use Rattle.tape.proofs.inner.view.View.window.Goals as goal

pub returns : goal.returns
returns c = search (window_is, to_z-of_z)
