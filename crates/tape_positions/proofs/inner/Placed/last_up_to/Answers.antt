use Rattle.std.proofs.Common.{◌≡◌, arith}
use mir.ValLaws.{to_z-of_z}
use Rattle.tape_cells.specs.Model.{last_written}
use Rattle.tape_cells.proofs.Facts.LoopCases.{last-front, last_reach}
use Rattle.tape_positions.proofs.Facts.Cases.{last_is}
use Rattle.tape_positions.proofs.inner.Placed.last_up_to.Goals as goal

pub returns : goal.returns
returns c =
    let f : c.last_written.result ≡ last_written c.args.self.now.cells.now c.cells_below-to.result = last-front _ _ _ (omega arith) c.last_written.ensures in
    (search (last_is, to_z-of_z), last_reach _ _ _ _ f (omega arith))
