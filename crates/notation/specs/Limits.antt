-- The limits of document 01 and the number that raises a position, by name. Models and code cite these names. The statements of the demands have the numbers
-- themselves, so that a wrong number here fails a theorem. Definitions only.
use Rattle.std.specs.Prelude.{ℕ, ◌^◌}

-- "13 steps + fuel over 2^62"
abbrev pub steps_most : ℕ
steps_most = 2 ^ 62

-- "9 word over 1,048,576"
abbrev pub word_most : ℕ
word_most = 2 ^ 20

-- "11 a cells buffer .. over 2^30"
abbrev pub cells_most : ℕ
cells_most = 2 ^ 30

-- "or a run side over 1,048,576"
abbrev pub runs_most : ℕ
runs_most = 2 ^ 20

-- "each side's sum, and its furthest cell's distance from 0, at most steps + 2^20"
abbrev pub slack : ℕ
slack = 2 ^ 20

-- "interval not 1 to 2^63"
abbrev pub interval_most : ℕ
interval_most = 2 ^ 63

-- position 0, raised: a position z is carried as the number 2^63 + z. The lengths of a side sum to less, so that a raised position plus such a sum fits 64 bits.
abbrev pub raised_zero : ℕ
raised_zero = 2 ^ 63
