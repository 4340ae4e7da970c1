use Rattle.std.proofs.Common.{rules}
use Rattle.listing_reader.proofs.Facts.TurnCases.{word_left_holds, word_turn_bad, word_turn_on, count_on_lem}
use Rattle.listing_reader.proofs.turns.word_turn.Goals as goal

pub returns-in_err-n : goal.returns-in_err-n
returns-in_err-n c = rw c.from_residual.ensures (λ t k. search (word_turn_bad, c.in_err-n.was), tt, search word_left_holds)

pub returns : goal.returns
returns c = (λ t k. search (word_turn_on, c.in_ok-n.was), search (rules, count_on_lem, c.in_ok-n.was), search word_left_holds)
