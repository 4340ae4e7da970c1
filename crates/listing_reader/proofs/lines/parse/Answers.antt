use Rattle.std.proofs.Common.{rules}
use native.Mathlib.Omega.{arith}
use Rattle.listing_reader.proofs.Facts.ParseCases.{inv_start, inv_next, long_parsed, long_places, bad_parsed, bad_places, stop_end}
use Rattle.listing_reader.proofs.lines.parse.Goals as goal

pub loop-at-init : goal.loop-at-init
loop-at-init c = search inv_start

pub returns-then-e-at-gt80 : goal.returns-then-e-at-gt80
returns-then-e-at-gt80 c = (search long_parsed, search long_places)

pub returns-in_default : goal.returns-in_default
returns-in_default c = (search (rules, bad_parsed), search (rules, bad_places))

pub loop-at-preserved : goal.loop-at-preserved
loop-at-preserved c = search (rules, inv_next)

pub returns : goal.returns
returns c = stop_end _ _ _ _ _ _ _ _ _ _ c.loop-at.invariant (omega (arith, c.loop-at-test)) _ c.finish.ensures
