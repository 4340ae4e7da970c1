use Rattle.sim.proofs.Facts.BurstCases.{misses_never, misses_from}
use Rattle.sim.proofs.runs.stop_of.Goals as goal

pub returns-in-None : goal.returns-in-None
returns-in-None c = search misses_never

pub returns-in-Some : goal.returns-in-Some
returns-in-Some c = search misses_from
