use Rattle.listing_reader.specs.Invariants.{sofar}
use Rattle.listing.specs.Output.{answer_of}
use Rattle.listing.proofs.printed.answer.Goals as goal

pub returns : goal.returns
unfolding answer_of sofar
returns c = c.in_buffers.ensures
