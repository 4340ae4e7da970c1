use mir.ValLaws.{to_z-of_z}
use Rattle.tape_positions.proofs.Facts.Cases.{index_reach, cell_at_lem}
use Rattle.tape_positions.proofs.inner.Placed.cell.Goals as goal

pub at-requires : goal.at-requires
at-requires c = search index_reach

pub returns : goal.returns
returns c = search (cell_at_lem, to_z-of_z)
