-- PACKING a whole table with one tape: it is accepted, place i holds the word of entry i, and the places past the table are unchanged. Assumes nothing.
use Rattle.std.specs.Prelude.{◌≡◌, List, ℕ, ◌≤◌, ◌<◌, eqb, length, get_or, Ok}
use native.Mathlib.Omega.{arith}
use borrow.Author.Tests.{le-leb, eq-eqb}
use Rattle.notation.specs.Choice.{pick}
use Rattle.notation.proofs.Facts.Fill.{fill_in, fill_past}
use Rattle.machine.specs.declared.Machine.{Machine}
use Rattle.machine.specs.Layout.{entry_count, entry_at}
use Rattle.machine.specs.Model.Packing.{pack_word, word_at, pack_check, pack_into}
use Rattle.table_laws.specs.WellFormed.{WellFormed}
use Rattle.table_laws.proofs.Facts.CheckExact.{table_check_accepts}

module _ (m : Machine) (s : List ℕ) (w : WellFormed m s) (one : m.tapes ≡ 1) where
  module _ (out : List ℕ) (room : entry_count m ≤ length out) where
    pub packed_table_accepted : pack_check m s (length out) ≡ Ok tt
    unfolding pack_check pick
    packed_table_accepted = rw (table_check_accepts m s w, eq-eqb _ _ one, le-leb _ _ room)

    -- place i holds the word of entry i
    pub packed_table_holds : (i : ℕ) → i < entry_count m → get_or (pack_into m s out) i 0 ≡ pack_word (entry_at s i) m.symbols
    unfolding pack_into word_at
    packed_table_holds i h = rw packed_table_accepted (fill_in (word_at s m.symbols) (entry_count m) 0 out i 0 (omega arith) (omega arith) (omega arith))

    -- the places past the table are unchanged
    pub packed_table_rest : (i : ℕ) → entry_count m ≤ i → get_or (pack_into m s out) i 0 ≡ get_or out i 0
    unfolding pack_into
    packed_table_rest i h = rw packed_table_accepted (fill_past (word_at s m.symbols) (entry_count m) 0 out i 0 (omega arith))
