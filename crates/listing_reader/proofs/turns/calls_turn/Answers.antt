use Rattle.std.proofs.Common.{rules}
use mathlib.Core.Path.{refl}
use Rattle.listing_reader.proofs.Facts.TurnCases.{calls_full, calls_bad, calls_on, call-left}
use Rattle.listing_reader.proofs.turns.calls_turn.Goals as goal

pub returns-then-n-ge64 : goal.returns-then-n-ge64
returns-then-n-ge64 c = (λ t w. search calls_full, tt, refl)

pub returns-in_err-call : goal.returns-in_err-call
returns-in_err-call c = rw c.from_residual.ensures (λ t w. search (calls_bad, c.in_err-call.was), tt, refl)

pub returns : goal.returns
returns c = (λ t w. search (calls_on, c.in_ok-call.was), search (rules, c.in_ok-call.was), search (call-left, c.in_ok-call.was))
