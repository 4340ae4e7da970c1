use mathlib.Core.Path.{◌≡◌}
use Rattle.rle_stack.specs.Model.{symbol_in, cell_at}
use Rattle.rle_stack.proofs.inner.Runs.symbol_at.Given as goal

abbrev pub invariant-loop-i : goal.invariant-loop-i
invariant-loop-i g l = symbol_in l.self-inside.symbols.now (g.L.Lengths.list l.self-inside.lengths) l.i l.d ≡ cell_at l.self l.distance
