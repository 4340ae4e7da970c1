-- How many cells a growth adds to a tape of `len` cells in a buffer of `cap`. Definitions only.
use Rattle.std.specs.Prelude.{ℕ, ◌+◌, leb}
use Rattle.notation.specs.Choice.{pick}

-- "Moving off either end doubles the length"; no cells where the double passes the buffer
unfoldable pub extra : (len cap : ℕ) → ℕ
extra len cap = pick (leb (len + len) cap) len 0
