-- The model of the code for one side of a tape, a stack of runs in lent places: "top nearest the head". Definitions only.
use Rattle.std.specs.Prelude.{Bool, false, not, List, ℕ, zero, suc, ◌+◌, ◌-◌, min, eqb, ltb, leb, length, get_or, set}
use Rattle.notation.specs.Choice.{pick, both}
use Rattle.notation.specs.Scan.{all_in}

-- the symbols and the lengths of the runs; the first `count` runs are live, and the last of these is on top
pub record Side : Type 0 where
  pub symbols : List ℕ
  pub lengths : List ℕ
  pub count : ℕ

abbrev pub side : List ℕ → List ℕ → ℕ → Side
side ss ls n = record { symbols = ss; lengths = ls; count = n }

-- the number of places of a side: the length of its shorter slice
abbrev pub places_of : List ℕ → List ℕ → ℕ
places_of ss ls = min (length ss) (length ls)

-- the symbol of run n − 1; below the bottom run all cells are blank
unfoldable pub symbol_under : List ℕ → ℕ → ℕ
symbol_under ss n = pick (eqb n 0) 0 (get_or ss (n - 1) 0)

abbrev pub top_of : Side → ℕ
top_of x = symbol_under x.symbols x.count

-- the run ahead: how many cells of symbol a lie next to the head
unfoldable pub ahead_of : ℕ → Side → ℕ
ahead_of a x =
    pick (eqb x.count 0) 0
    (pick (eqb (get_or x.symbols (x.count - 1) 0) a) (get_or x.lengths (x.count - 1) 0) 0)

-- a push of n cells of symbol s: a top run of s grows, an empty side stores no blanks, and any other push makes a new run
unfoldable pub grown_of : ℕ → Side → Side
grown_of n x =
    pick (eqb x.count 0) x
    (side x.symbols (set x.lengths (x.count - 1) (get_or x.lengths (x.count - 1) 0 + n)) x.count)

unfoldable pub push_of : (s n : ℕ) → Side → Side
push_of s n x =
    pick (eqb s (top_of x)) (grown_of n x)
    (side (set x.symbols x.count s) (set x.lengths x.count n) (x.count + 1))

-- the push needs a new run, and there is no place for it
unfoldable pub lacks : (places s : ℕ) → Side → Bool
lacks places s x = pick (eqb s (top_of x)) false (leb places x.count)

-- the top run gets length m; a run of length 0 is removed
abbrev pub resized : ℕ → Side → Side
resized m x = side x.symbols (set x.lengths (x.count - 1) m) (pick (eqb m 0) (x.count - 1) x.count)

-- n cells are taken off the top run
unfoldable pub take_of : ℕ → Side → Side
take_of n x = pick (eqb x.count 0) x (resized (get_or x.lengths (x.count - 1) 0 - n) x)

-- ---- "lengths at least 1, neighbours differ, bottom run not blank"; symbols below k

unfoldable pub run_fits : (k : ℕ) → (ss ls : List ℕ) → ℕ → Bool
run_fits k ss ls i =
    both (ltb 0 (get_or ls i 0)) (both (ltb (get_or ss i 0) k) (not (eqb (get_or ss i 0) (symbol_under ss i))))

unfoldable pub runs_fit : (k : ℕ) → Side → Bool
runs_fit k x = all_in (run_fits k x.symbols x.lengths) x.count 0

-- the sum of the first n lengths
unfoldable pub sum_of : List ℕ → ℕ → ℕ
sum_of ls zero = 0
sum_of ls (suc n) = sum_of ls n + get_or ls n 0

abbrev pub cells_of : Side → ℕ
cells_of x = sum_of x.lengths x.count

-- ---- questions

-- the symbol at distance d from the head, in the first n runs, of which the last is next to the head; the next cell is at distance 0
unfoldable pub symbol_in : (ss ls : List ℕ) → (n d : ℕ) → ℕ
symbol_in ss ls zero d = 0
symbol_in ss ls (suc n) d =
    let further : ℕ = symbol_in ss ls n (d - get_or ls n 0) in
    pick (ltb d (get_or ls n 0)) (get_or ss n 0) further

abbrev pub cell_at : Side → ℕ → ℕ
cell_at x d = symbol_in x.symbols x.lengths x.count d

-- how many cells of run i are not blank
abbrev pub weight_at : (ss ls : List ℕ) → ℕ → ℕ
weight_at ss ls i = pick (eqb (get_or ss i 0) 0) 0 (get_or ls i 0)

unfoldable pub weight_of : (ss ls : List ℕ) → ℕ → ℕ
weight_of ss ls zero = 0
weight_of ss ls (suc n) = weight_of ss ls n + weight_at ss ls n

abbrev pub written_of : Side → ℕ
written_of x = weight_of x.symbols x.lengths x.count

-- the distance of the nearest cell that is not blank, on a side with runs; the next cell is at distance 1, and the run under a blank top run is not blank
unfoldable pub near_of : Side → ℕ
near_of x = pick (eqb (top_of x) 0) (get_or x.lengths (x.count - 1) 0 + 1) 1
