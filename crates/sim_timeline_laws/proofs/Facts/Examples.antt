-- Examples of the rule of space: a tape of 32 cells, the length of a fresh tape without a word, and a machine of three tapes. Assumes nothing.
use Rattle.std.specs.Prelude.{◌≡◌, refl, true, false, [], ℕ}
use Rattle.notation.specs.Choice.{pick, both}
use Rattle.symbol.specs.Kinds.{symbol_of, state_of}
use Rattle.symbol.specs.declared.Dir.{Dir}
use Rattle.symbol.specs.declared.Dir.TheVariants.{L, R, N}
use Rattle.machine.specs.declared.Action.{Action}
use Rattle.table_machine.specs.TableMachine.{start}
use Rattle.sim_timeline_laws.specs.Meaning.{Extent, moved_by, passes, Mean, SomePasses, first, second, third}

-- 32 cells in a buffer, the head at an index
abbrev fresh : (head buffer : ℕ) → Extent
fresh i n = record { len = 32; head = i; buffer = n }

-- inside the tape a move needs no room
inside_left : passes (fresh 16 32) L ≡ false
unfolding passes both
inside_left = refl

inside_right : moved_by (fresh 16 32) R ≡ fresh 17 32
unfolding moved_by pick
inside_right = refl

-- off either end it needs 64 cells: a buffer of 63 is full, one of 64 is not
full_left : passes (fresh 0 63) L ≡ true
unfolding passes both
full_left = refl

full_right : passes (fresh 31 63) R ≡ true
unfolding passes both
full_right = refl

stays_at_the_end : passes (fresh 31 32) N ≡ false
unfolding passes both
stays_at_the_end = refl

room_left : passes (fresh 0 64) L ≡ false
unfolding passes both
room_left = refl

-- the new blanks are on that side: the cell left of the first one has index 31 of 64, the cell right of the last one index 32
grows_left : moved_by (fresh 0 64) L ≡ record { len = 64; head = 31; buffer = 64 }
unfolding moved_by pick
grows_left = refl

grows_right : moved_by (fresh 31 64) R ≡ record { len = 64; head = 32; buffer = 64 }
unfolding moved_by pick
grows_right = refl

-- ---- three tapes, each with the head on its last cell and a buffer of 63: a move off any one of them is full

abbrev three : Mean
three = record { config = start 0 []; extent0 = fresh 31 63; extent1 = fresh 31 63; extent2 = fresh 31 63 }

abbrev moves : (d0 d1 d2 : Dir) → Action
moves d0 d1 d2 = record { next = state_of 0; write0 = symbol_of 0; write1 = symbol_of 0; write2 = symbol_of 0; dir0 = d0; dir1 = d1; dir2 = d2 }

full_first : SomePasses three (moves R N N)
unfolding passes both
full_first = first refl

full_second : SomePasses three (moves N R N)
unfolding passes both
full_second = second refl

full_third : SomePasses three (moves N N R)
unfolding passes both
full_third = third refl
