-- THE FIRST DEMAND: "Every operation takes every table, word, buffer, engine value, fuel and target, returns, and wraps no counter. A refusal carries its number
-- from document 01 and changes no state, tape, run stack or store. Lack of space stops a run before the step that needs it, earlier steps kept."
-- The check of the crates proves that every operation takes everything, returns and wraps nothing: no public operation has a `requires`. The rest is here.
use Rattle.demands_first.specs.FirstTables.{TableOperations}
use Rattle.demands_first.proofs.FirstTables.{table_operations}
use Rattle.demands_first.specs.FirstLines.{LineOperations}
use Rattle.demands_first.proofs.FirstLines.{line_operations}
use Rattle.demands_first.specs.FirstPlain.{PlainOperations}
use Rattle.demands_first.proofs.FirstPlain.{plain_operations}
use Rattle.demands_first.specs.FirstChain.{ChainOperations}
use Rattle.demands_first.proofs.FirstChain.{chain_operations}
use Rattle.demands_first.specs.FirstTimelines.{BothTimelines}
use Rattle.demands_first.proofs.FirstTimelines.{both_timelines}
use Rattle.demands_first.specs.FirstListing.{ListingOperation}
use Rattle.demands_first.proofs.FirstListing.{listing_operation}

pub record FirstDemand : Type 0 where
  -- "A refusal carries its number from document 01 and changes no state, tape, run stack or store.": the table check, the lookup, packing, the word's check,
  -- the encoder
  pub tables : TableOperations
  -- the same for reading and writing the one-line form
  pub lines : LineOperations
  -- the same, and "Lack of space stops a run before the step that needs it, earlier steps kept.": the plain engine's new, step, run, fast run, tape questions
  -- and check
  pub plain : PlainOperations
  -- the same for the run-length engine: new, run, the tape questions, left and right, check
  pub chain : ChainOperations
  -- the same for the timelines over both engines: new, seek, forward and back
  pub timelines : BothTimelines
  -- the first of the two sentences, for the listing
  pub listing : ListingOperation

pub first-demand : FirstDemand
first-demand = record {
  tables = table_operations;
  lines = line_operations;
  plain = plain_operations;
  chain = chain_operations;
  timelines = both_timelines;
  listing = listing_operation;
}
