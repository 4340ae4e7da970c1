use Rattle.tape.proofs.Facts.MoveCases.{room_asked, room_given}
use Rattle.tape.proofs.inner.room.Goals as goal

pub returns-then-leaves : goal.returns-then-leaves
returns-then-leaves c = search room_asked

pub returns : goal.returns
returns c = search room_given
