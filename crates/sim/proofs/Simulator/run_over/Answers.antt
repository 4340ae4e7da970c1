use Rattle.machine.proofs.Facts.Check.{ranges}
use Rattle.sim.proofs.Simulator.run_over.Goals as goal

pub worth_packing-requires : goal.worth_packing-requires
worth_packing-requires c = let g = ranges _ _ c.requires.table_value in (g.states_high, g.symbols_high)
