use Rattle.std.proofs.Common.{rules}
use Rattle.listing_lines.proofs.Facts.FormCases.{machine_small, forms}
use Rattle.listing_reader.specs.Listing.{line}
use Rattle.listing_reader.specs.Invariants.{next_of, sofar}
use Rattle.listing_reader.proofs.turns.numbers_turn.Goals as goal

pub returns-in_err-machine : goal.returns-in_err-machine
unfolding line next_of sofar
returns-in_err-machine c = rw c.from_residual.ensures (λ t w k. search (forms, c.in_err-machine.was), tt)

pub returns : goal.returns
unfolding line next_of sofar
returns c = (λ t w k. search (forms, c.in_ok-machine.was), search (rules, machine_small, c.in_ok-machine.was))
