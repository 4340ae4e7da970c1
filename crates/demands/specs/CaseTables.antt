-- The tables of document 01's cases, as bytes. Definitions only.
use Rattle.std.specs.Prelude.{List, [], ◌∷◌, ◌++◌, ℕ, ◌+◌, ◌*◌, replicate}
use Rattle.machine.specs.declared.Machine.{Machine}

abbrev pub machine : (tapes symbols states : ℕ) → Machine
machine t k n = record { tapes = t; symbols = k; states = n; start = 0 }

-- the entry "write, move, next" of a one-tape table, with L 0, R 1, N 2; the two absent tapes have N
abbrev pub entry1 : (write move next : ℕ) → List ℕ
entry1 write move next = 1 ∷ next ∷ 0 ∷ write ∷ 0 ∷ 0 ∷ (move + 3 * 2 + 9 * 2) ∷ 0 ∷ []

abbrev pub none : List ℕ
none = replicate 8 0

-- "the listing's table"
abbrev pub listing : List ℕ
listing = entry1 1 1 1 ++ (entry1 1 0 1 ++ (entry1 1 0 0 ++ (entry1 1 1 2 ++ (none ++ none))))

-- "State 0 on blank writes 1, moves R, stays in 0"
abbrev pub walker : List ℕ
walker = entry1 1 1 0 ++ none

-- "Blank rewritten, N, same state"
abbrev pub stayer : List ℕ
stayer = entry1 0 2 0 ++ none

-- "Blank to 1, N, 1 undefined"
abbrev pub writer : List ℕ
writer = entry1 1 2 0 ++ none

-- "Two tapes both moving R on blanks, same state": k is 2, so the table has four entries; a run reads only the first
abbrev pub pair : List ℕ
pair = (1 ∷ 0 ∷ 0 ∷ 0 ∷ 0 ∷ 0 ∷ (1 + 3 * 1 + 9 * 2) ∷ 0 ∷ []) ++ (none ++ (none ++ none))

-- "1 kept moving R, blank undefined"; the state is kept too
abbrev pub keeper : List ℕ
keeper = none ++ entry1 1 1 0
