-- When a tape's numbers and cells fit (document 01, refusal 12), and what the functions on one tape may assume. Definitions only.
use Rattle.std.specs.Prelude.{Bool, List, ℕ, ◌≤◌, ◌<◌, ltb, leb, length, get_or}
use Rattle.notation.specs.Choice.{both}
use Rattle.notation.specs.Limits.{cells_most}
use Rattle.notation.specs.Scan.{all_in}
use Rattle.symbol.specs.Kinds.{symbol_in}
use Rattle.tape.specs.declared.Tape.{Tape}
pub use Rattle.tape_cells.specs.Model.{reach}

-- "length from 32 to the buffer's, head and origin below it, lowest ≤ head ≤ highest, all inside"
abbrev pub shape_fits : Tape → (cap : ℕ) → Bool
shape_fits t cap =
    both (leb 32 t.len)
    (both (leb t.len cap)
    (both (ltb t.head t.len)
    (both (ltb t.origin t.len)
    (both (leb t.lowest t.head)
    (both (leb t.head t.highest) (ltb t.highest t.len))))))

-- "symbols below k", for the first len cells; those past them are not read
unfoldable pub tape_fits : (k : ℕ) → Tape → List ℕ → Bool
tape_fits k t c = both (shape_fits t (length c)) (all_in (symbol_in k c) t.len 0)

-- the same, part by part
pub record TapeFits (k : ℕ) (t : Tape) (c : List ℕ) : Type 0 where
  pub least : 32 ≤ t.len
  pub most : t.len ≤ length c
  pub head_in : t.head < t.len
  pub origin_in : t.origin < t.len
  pub low_head : t.lowest ≤ t.head
  pub head_high : t.head ≤ t.highest
  pub high_in : t.highest < t.len
  pub symbols : (i : ℕ) → i < t.len → get_or c i 0 < k

-- true of every tape of at most 2^30 cells that fits, and of one that the machine lacks, whose numbers are 0
pub record TapeOk (t : Tape) (c : List ℕ) : Type 0 where
  pub len_in : t.len ≤ length c
  pub len_small : t.len ≤ cells_most
  pub head_in : t.head ≤ t.len
  pub origin_in : t.origin ≤ t.len
  pub low_in : t.lowest ≤ t.len
  pub high_in : t.highest ≤ t.len

-- a tape with a cell under its head has a buffer of at most 2^30 cells; one that the machine lacks may have any buffer
pub record TapeSafe (t : Tape) (c : List ℕ) : Type 0 where
  pub ok : TapeOk t c
  pub sized : t.head < t.len → length c ≤ cells_most
