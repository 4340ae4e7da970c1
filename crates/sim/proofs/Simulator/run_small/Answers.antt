use mathlib.Core.Path.{refl}
use Rattle.sim.proofs.Facts.BurstCases.{small_words}
use Rattle.sim.proofs.Simulator.run_small.Goals as goal

pub run_bursts-requires-clause-words_if : goal.run_bursts-requires-clause-words_if
run_bursts-requires-clause-words_if c = small_words _ _ _ _ c.requires.table_value c.requires.small refl c.pack_entries.ensures
