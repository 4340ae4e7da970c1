use mir.ValLaws.{to_z-of_z}
use mir.Syntax.{w64}
use Rattle.tape.proofs.Facts.QuestionCases.{spot_none, spot_at}
use Rattle.tape.proofs.inner.view.spot.Goals as goal

pub returns-in-None : goal.returns-in-None
returns-in-None c = search spot_none

pub returns-in-Some : goal.returns-in-Some
returns-in-Some c = rw (to_z-of_z w64 c.of_index-at.result (record { sfits = c.of_index-at.type_inv })) (search spot_at)
