-- A packed word as a number (document 01, machine.rs). Definitions only.
use Rattle.std.specs.Prelude.{ℕ, ◌+◌, ◌*◌, ◌^◌, ltb}
use Rattle.notation.specs.Choice.{pick}

-- "d0 + 256 × write + 65,536 × next + 2^32 × next × stride"
abbrev pub word_of : (d0 write next stride : ℕ) → ℕ
word_of d0 write next stride = d0 + 256 * write + 65536 * next + 2 ^ 32 * (next * stride)

-- the packed word, or `undefined` where its row does not fit in 32 bits, as in the Rust
abbrev pub word_for : (undefined d0 write next stride : ℕ) → ℕ
word_for undefined d0 write next stride = pick (ltb (next * stride) (2 ^ 32)) (word_of d0 write next stride) undefined
