-- The table's layout (document 01, machine.rs): the place of each entry, and the meaning of its eight bytes. Definitions only.
use Rattle.std.specs.Prelude.{List, ℕ, ◌+◌, ◌*◌, ◌/◌, ◌%◌, ◌^◌, eqb, ltb, length, None, Option, Some}
use Rattle.notation.specs.Choice.{pick, both}
use Rattle.symbol.specs.Kinds.{symbol_of, state_of}
use Rattle.symbol.specs.declared.Symbol.{Symbol}
use Rattle.symbol.specs.declared.State.{State}
use Rattle.symbol.specs.declared.Dir.{Dir}
use Rattle.symbol.specs.declared.Dir.TheVariants.{L, R, N}
use Rattle.machine.specs.declared.Machine.{Machine}
use Rattle.machine.specs.declared.Action.{Action}
pub use Rattle.table_bytes.specs.Model.Entries.{entry_number, flag_at, byte_at}

-- "With n states, k symbols and t tapes the stride is k^t."
abbrev pub stride_of : Machine → ℕ
stride_of m = m.symbols ^ m.tapes

abbrev pub entry_count : Machine → ℕ
entry_count m = m.states * stride_of m

-- "L 0, R 1, N 2"
abbrev pub dir_of : ℕ → Dir
dir_of d = pick (eqb d 0) L (pick (eqb d 1) R N)

-- "bytes 1 and 2 the next state, low byte first; 3 to 5 the writes; 6 is d0 + 3 × d1 + 9 × d2"
unfoldable pub action_at : List ℕ → ℕ → Action
action_at s i =
    record {
      next = state_of (byte_at s i 1 + 256 * byte_at s i 2);
      write0 = symbol_of (byte_at s i 3);
      write1 = symbol_of (byte_at s i 4);
      write2 = symbol_of (byte_at s i 5);
      dir0 = dir_of (byte_at s i 6 % 3);
      dir1 = dir_of (byte_at s i 6 / 3 % 3);
      dir2 = dir_of (byte_at s i 6 / 9 % 3);
    }

-- entry i of the table; it is undefined past the table's end
unfoldable pub entry_at : List ℕ → ℕ → Option Action
entry_at s i =
    pick (both (ltb i (length s / 8)) (eqb (flag_at s i) 1)) (Some (action_at s i)) None

-- the action of a machine with one tape
abbrev pub single_of : Symbol → Dir → State → Action
single_of w d q =
    record {
      next = q;
      write0 = w;
      write1 = symbol_of 0;
      write2 = symbol_of 0;
      dir0 = d;
      dir1 = N;
      dir2 = N;
    }
