use Rattle.std.proofs.Common.{◌≡◌, ◌<◌, ◌^◌, drop}
use Rattle.listing_text.specs.Numbers.{digits}
use Rattle.listing_text.proofs.read_digits.Given as goal

abbrev pub invariant-loop-b : goal.invariant-loop-b
invariant-loop-b l = (l.v < 2 ^ 64) × (digits l.v (drop l.b-index l.s) ≡ digits 0 l.s)
