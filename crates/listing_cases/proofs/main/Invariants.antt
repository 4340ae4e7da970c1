-- As many pairs are passed as turns are made, and no more of them differ.
use Rattle.std.proofs.Common.{◌≡◌, ◌≤◌}
use Rattle.listing_cases.proofs.main.Given as goal

abbrev pub invariant-loop-i : goal.invariant-loop-i
invariant-loop-i l = (l.pairs ≡ l.i) × (l.differ ≤ l.i)
