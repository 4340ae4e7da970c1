-- One dense tape over its lent cells (document 01, tape.rs): a fresh tape, what is read, a write, a move, and the growth that a move may need.
-- Definitions only.
use Rattle.std.specs.Prelude.{Bool, true, false, List, ℕ, ◌+◌, ◌-◌, min, max, eqb, ltb, leb, length, get_or, set}
use Rattle.notation.specs.Choice.{pick}
use Rattle.symbol.specs.declared.Dir.{Dir}
use Rattle.symbol.specs.declared.Dir.TheVariants.{L, R, N}
use Rattle.tape.specs.declared.Tape.{Tape}
use Rattle.tape_cells.specs.Growth.{extra}
pub use Rattle.tape_cells.specs.Model.{blank_cell, placed, fresh_cells}
unfoldable pub use Rattle.tape_cells.specs.Model.{blanked, laid, moved_up}

-- the tape's numbers, and its whole buffer
pub record Held : Type 0 where
  pub tape : Tape
  pub cells : List ℕ

abbrev pub held : Tape → List ℕ → Held
held t c = record { tape = t; cells = c }

-- ---- "Fresh: 16 blanks, the word, 16 blanks, origin and head at index 16."

abbrev pub fresh_tape : (n : ℕ) → Tape
fresh_tape n = record { len = 32 + n; origin = 16; head = 16; lowest = 16; highest = 16 }

unfoldable pub fresh_of : (word cells : List ℕ) → Held
fresh_of w c = held (fresh_tape (length w)) (fresh_cells w c)

-- a tape that the machine lacks
abbrev pub no_tape : Tape
no_tape = record { len = 0; origin = 0; head = 0; lowest = 0; highest = 0 }

-- ---- reading and writing

-- a tape that the machine lacks has no cell under its head, and reads blank
unfoldable pub read_of : Held → ℕ
read_of h = pick (ltb h.tape.head h.tape.len) (get_or h.cells h.tape.head 0) 0

abbrev pub write_of : Held → ℕ → Held
write_of h w = held h.tape (set h.cells h.tape.head w)

-- ---- moving: "Moving off either end doubles the length, new blanks on that side; full exactly when that passes the buffer"

-- the move leaves the cells
unfoldable pub leaves : Tape → Dir → Bool
leaves t L = eqb t.head 0
leaves t R = eqb (t.head + 1) t.len
leaves t N = false

-- the move has room in a buffer of `cap` cells
unfoldable pub room_for : Tape → (cap : ℕ) → Dir → Bool
room_for t cap d = pick (leaves t d) (leb 1 (extra t.len cap)) true

abbrev pub grown_left : Tape → ℕ → Tape
grown_left t n = record {
  len = t.len + n;
  origin = t.origin + n;
  head = t.head + n;
  lowest = t.lowest + n;
  highest = t.highest + n;
}

abbrev pub grown_right : Tape → ℕ → Tape
grown_right t n = record {
  len = t.len + n;
  origin = t.origin;
  head = t.head;
  lowest = t.lowest;
  highest = t.highest;
}

-- the tape with n new blank cells on that side
unfoldable pub grown_by : ℕ → Held → Dir → Held
grown_by n h L = held (grown_left h.tape n) (blanked 0 n (moved_up n h.tape.len h.cells))
grown_by n h R = held (grown_right h.tape n) (blanked h.tape.len (h.tape.len + n) h.cells)
grown_by n h N = h

abbrev pub grow_of : Held → Dir → Held
grow_of h d = grown_by (extra h.tape.len (length h.cells)) h d

-- the tape after the head's move, with the lowest and the highest head so far
unfoldable pub shift_of : Tape → Dir → Tape
shift_of t L = record {
  len = t.len;
  origin = t.origin;
  head = t.head - 1;
  lowest = min t.lowest (t.head - 1);
  highest = t.highest;
}
shift_of t R = record {
  len = t.len;
  origin = t.origin;
  head = t.head + 1;
  lowest = t.lowest;
  highest = max t.highest (t.head + 1);
}
shift_of t N = t

abbrev pub shifted : Held → Dir → Held
shifted h d = held (shift_of h.tape d) h.cells

-- a move; where it leaves the cells, the tape grows first
unfoldable pub move_of : Held → Dir → Held
move_of h d = shifted (pick (leaves h.tape d) (grow_of h d) h) d

-- a write and a move; a tape that the machine lacks is left as it is
unfoldable pub act_of : Held → ℕ → Dir → Held
act_of h w d = pick (ltb h.tape.head h.tape.len) (move_of (write_of h w) d) h
