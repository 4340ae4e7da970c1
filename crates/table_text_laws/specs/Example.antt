-- The customer's line `1RB1LB_1LA1RZ`, and the table that document 01's listing gives. Definitions only.
use Rattle.std.specs.Prelude.{List, [], ◌∷◌, ℕ}
use Rattle.machine.specs.declared.Machine.{Machine}

-- 1RB1LB_1LA1RZ
abbrev pub example_line : List ℕ
example_line = 49 ∷ 82 ∷ 66 ∷ 49 ∷ 76 ∷ 66 ∷ 95 ∷ 49 ∷ 76 ∷ 65 ∷ 49 ∷ 82 ∷ 90 ∷ []

-- the listing's table of document 01
abbrev pub example_machine : Machine
example_machine = record { tapes = 1; symbols = 2; states = 3; start = 0 }

abbrev pub example_table : List ℕ
example_table =
    1 ∷ 1 ∷ 0 ∷ 1 ∷ 0 ∷ 0 ∷ 25 ∷ 0 ∷ 1 ∷ 1 ∷ 0 ∷ 1 ∷ 0 ∷ 0 ∷ 24 ∷ 0
    ∷ 1 ∷ 0 ∷ 0 ∷ 1 ∷ 0 ∷ 0 ∷ 24 ∷ 0 ∷ 1 ∷ 2 ∷ 0 ∷ 1 ∷ 0 ∷ 0 ∷ 25 ∷ 0
    ∷ 0 ∷ 0 ∷ 0 ∷ 0 ∷ 0 ∷ 0 ∷ 0 ∷ 0 ∷ 0 ∷ 0 ∷ 0 ∷ 0 ∷ 0 ∷ 0 ∷ 0 ∷ 0 ∷ []
