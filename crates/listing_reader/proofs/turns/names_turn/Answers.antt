use Rattle.std.proofs.Common.{rules}
use Rattle.listing_reader.specs.Listing.{line}
use Rattle.listing_reader.specs.Invariants.{next_of, sofar}
use Rattle.listing_lines.proofs.Facts.FormCases.{forms}
use Rattle.listing_reader.proofs.turns.names_turn.Goals as goal

pub returns-then-is_first : goal.returns-then-is_first
unfolding line next_of sofar
returns-then-is_first c = (λ t w k. search forms, search rules)

pub returns : goal.returns
unfolding line next_of sofar
returns c = (λ t w k. search forms, tt)
