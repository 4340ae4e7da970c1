-- The proof of what specs/FirstLines.antt states.
use Rattle.demands_first.proofs.Facts.FirstLines.{read_turns, write_turns}
use Rattle.demands_first.specs.FirstLines.{LineOperations}

pub line_operations : LineOperations
line_operations = record { read = read_turns; write = write_turns }
