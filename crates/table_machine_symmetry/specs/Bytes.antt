-- The bytes of a mirrored and of a renamed table (document 02, request 10; document 01, machine.rs: eight bytes an entry). Definitions only.
use Rattle.machine.specs.declared.Action.{Action}
use Rattle.std.specs.Prelude.{List, [], ◌++◌, ℕ, zero, suc, ◌+◌, ◌*◌, ◌/◌, ◌%◌, Option}
use Rattle.machine.specs.declared.Machine.{Machine}
use Rattle.machine.specs.Layout.{stride_of, entry_count, entry_at}
use Rattle.table_laws.specs.WellFormed.{entry_bytes}
use Rattle.table_machine_symmetry.specs.Mirror.{mirrored_entry}
use Rattle.table_machine_symmetry.specs.Renaming.{renamed_entry}

-- the bytes of n entries: f 0, f 1, ..
unfoldable pub table_bytes : (ℕ → Option Action) → ℕ → List ℕ
table_bytes f zero = []
table_bytes f (suc n) = entry_bytes (f zero) ++ table_bytes (λ i. f (suc i)) n

-- every entry with L and R exchanged
abbrev pub mirrored_bytes : Machine → List ℕ → List ℕ
mirrored_bytes m s = table_bytes (λ i. mirrored_entry (entry_at s i)) (entry_count m)

-- entry i lies in the row of state i / stride: this is the same entry in the row that the state had under its old number
abbrev pub old_place : (from : ℕ → ℕ) → Machine → ℕ → ℕ
old_place from m i = from (i / stride_of m) * stride_of m + i % stride_of m

-- every row in its state's new place, its next states renamed
abbrev pub renamed_bytes : (to from : ℕ → ℕ) → Machine → List ℕ → List ℕ
renamed_bytes to from m s = table_bytes (λ i. renamed_entry to (entry_at s (old_place from m i))) (entry_count m)
