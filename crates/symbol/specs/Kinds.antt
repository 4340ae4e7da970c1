-- Symbols, states and moves by their numbers (document 01, symbol.rs). Definitions only.
use Rattle.std.specs.Prelude.{Bool, List, ℕ, ltb, ℤ, pos, negsuc, get_or}
use Rattle.symbol.specs.declared.Symbol.{Symbol}
use Rattle.symbol.specs.declared.State.{State}
use Rattle.symbol.specs.declared.Dir.{Dir}
use Rattle.symbol.specs.declared.Dir.TheVariants.{L, R, N}

abbrev pub symbol_of : ℕ → Symbol
symbol_of n = record { 0 = n }

abbrev pub state_of : ℕ → State
state_of n = record { 0 = n }

-- "symbols below k": the one at place i of a word, or of a tape's cells
abbrev pub symbol_in : (k : ℕ) → List ℕ → ℕ → Bool
symbol_in k s i = ltb (get_or s i 0) k

-- "L 0, R 1, N 2"
abbrev pub dir_number : Dir → ℕ
dir_number L = 0
dir_number R = 1
dir_number N = 2

-- "move L, R or N (-1, 1, 0)"
abbrev pub delta_of : Dir → ℤ
delta_of L = negsuc 0
delta_of R = pos 1
delta_of N = pos 0

abbrev pub reversed_of : Dir → Dir
reversed_of L = R
reversed_of R = L
reversed_of N = N
