use Rattle.notation.proofs.Facts.Fill.{fill_end}
use Rattle.tape_positions.proofs.Facts.Cases.{window_turn}
use Rattle.tape_positions.proofs.inner.Placed.fill.Goals as goal

pub loop-j-preserved : goal.loop-j-preserved
loop-j-preserved c = search window_turn

pub returns : goal.returns
returns c = search fill_end
