-- A side to write, as the model of one side. Definitions only.
use Rattle.std.specs.Prelude.{◌≡◌}
use Rattle.rle_stack.specs.declared.inner.Stack.{Stack}
use Rattle.rle_stack.specs.Model.{Side, side}

abbrev pub held : Stack → Side
held x = side x.symbols.now x.lengths.now x.count

-- the lent slices and the number of places are those of x
abbrev pub SameSlices : Stack → Stack → Type 0
SameSlices x y =
    (y.symbols.ghost_name ≡ x.symbols.ghost_name) × (y.lengths.ghost_name ≡ x.lengths.ghost_name) × (y.places ≡ x.places)
