use Rattle.std.proofs.Common.{rules}
use mathlib.Core.Path.{refl}
use Rattle.listing_lines.proofs.Facts.FormCases.{entry_ok_lem, forms}
use Rattle.listing_reader.specs.Listing.{line}
use Rattle.listing_reader.specs.Invariants.{next_of, sofar}
use Rattle.listing_reader.proofs.Facts.TurnCases.{entries_given, entries_on, given-left}
use Rattle.listing_reader.proofs.turns.entries_turn.Goals as goal

pub returns-then-is_word : goal.returns-then-is_word
unfolding line next_of sofar
returns-then-is_word c = (λ w k. search forms, search rules, tt)

pub returns-in_err-e : goal.returns-in_err-e
unfolding line next_of sofar
returns-in_err-e c = rw c.from_residual.ensures (λ w k. search (forms, c.in_err-e.was) depth 8, tt, refl)

pub give-requires : goal.give-requires
give-requires c = search (rules, entry_ok_lem, c.in_ok-e.was)

pub returns-then-give : goal.returns-then-give
returns-then-give c = (λ w k. search (entries_given, c.in_ok-e.was), tt, search (given-left, c.in_ok-e.was))

pub returns : goal.returns
returns c = (λ w k. search (entries_on, c.in_ok-e.was), search (rules, c.in_ok-e.was), tt)
