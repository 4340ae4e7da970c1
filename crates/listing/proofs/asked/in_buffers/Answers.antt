use Rattle.listing.specs.Output.{blank_cells, blank_store}
use Rattle.listing.proofs.asked.in_buffers.Goals as goal

pub returns : goal.returns
unfolding blank_cells blank_store
returns c = c.on_engine.ensures
