-- The proof of what specs/FirstListing.antt states.
use Rattle.demands_first.proofs.Facts.FirstListing.{is_long, is_short, short_only, list_turns}
use Rattle.demands_first.specs.FirstListing.{ListingOperation}

pub listing_operation : ListingOperation
listing_operation = record {
  list = list_turns;
  short = λ input out. (short_only input out, is_short input out);
  long = is_long;
}
