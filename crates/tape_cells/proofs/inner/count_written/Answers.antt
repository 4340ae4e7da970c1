-- each cell counts as 1 at most, and there are fewer than 2^63 cells: the sum fits
use Rattle.std.proofs.Common.{rules, arith}
use Rattle.std.proofs.lemmas.Iterator.{YieldsList-from_slice}
use Rattle.std.proofs.lemmas.Iterator.Adapters.{fits_from_length, at_most_from_yields_List}
use Rattle.tape_cells.proofs.inner.count_written.Goals as goal

pub sum-requires-clause-fits : goal.sum-requires-clause-fits
sum-requires-clause-fits c =
    fits_from_length _ _ 9223372036854775807 _ (at_most_from_yields_List (YieldsList-from_slice c.args.cells.now cc) (omega arith)) c.map.ensures.closure (omega arith) (λ x r q k. search rules)
