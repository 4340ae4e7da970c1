-- The table check: refusals 1 to 6 in document 01's order; 6 gives the lowest bad entry. Definitions only.
use Rattle.machine.specs.declared.Action.{Action}
use Rattle.std.specs.Prelude.{Bool, List, ℕ, ◌*◌, eqb, ltb, length, Err, None, Ok, Option, Result, Some, ⊤}
use Rattle.notation.specs.Choice.{pick}
use Rattle.notation.specs.Scan.{first_fail}
use Rattle.symbol.specs.declared.Symbol.{Symbol}
use Rattle.symbol.specs.declared.State.{State}
use Rattle.outcome.specs.declared.Refusal.{Refusal}
use Rattle.outcome.specs.declared.Refusal.TheVariants as Why
use Rattle.machine.specs.declared.Machine.{Machine}
use Rattle.machine.specs.Layout.{stride_of, entry_count, entry_number, entry_at}
use Rattle.table_bytes.specs.Model.Entries.{entry_for}
pub use Rattle.table_bytes.specs.Model.Entries.{within, zero_at, head_ok, tape_ok, writes_ok}

-- the refusal where the test fails, else the rest
abbrev pub demand : Bool → Refusal → Result ⊤ Refusal → Result ⊤ Refusal
demand test why rest = pick test rest (Err why)

-- the refusal of a check, or the rest where the check accepts
abbrev pub checked_on : Result ⊤ Refusal → Result ⊤ Refusal → Result ⊤ Refusal
checked_on (Err why) rest = Err why
checked_on (Ok tt) rest = rest

-- the answer after a scan: the refusal with the place found, if there is one, else accepted
abbrev pub answer_at : (ℕ → Refusal) → Option ℕ → Result ⊤ Refusal
answer_at why None = Ok tt
answer_at why (Some i) = Err (why i)

-- the output after a check: unchanged where the check refuses, else filled
abbrev pub filled_on : Result ⊤ Refusal → (out filled : List ℕ) → List ℕ
filled_on (Err why) out filled = out
filled_on (Ok tt) out filled = filled

-- ---- the table

unfoldable pub entry_ok : Machine → List ℕ → ℕ → Bool
entry_ok m s i = entry_for m.states m.tapes m.symbols s i

unfoldable pub entries_check : Machine → List ℕ → ℕ → Result ⊤ Refusal
entries_check m s count = answer_at Why.Entry (first_fail (entry_ok m s) count 0)

unfoldable pub size_check : Machine → List ℕ → ℕ → Result ⊤ Refusal
size_check m s count = demand (eqb (length s) (8 * count)) Why.TableSize (entries_check m s count)

unfoldable pub table_check : Machine → List ℕ → Result ⊤ Refusal
table_check m s =
    demand (within 1 3 m.tapes) Why.Tapes
    (demand (within 1 256 m.symbols) Why.Symbols
    (demand (within 1 65536 m.states) Why.States
    (demand (ltb m.start m.states) Why.Start (size_check m s (entry_count m)))))

-- ---- the lookup: the table check first, then the entry

abbrev pub looked_on : Result ⊤ Refusal → Result (Option Action) Refusal → Result (Option Action) Refusal
looked_on (Err why) found = Err why
looked_on (Ok tt) found = found

unfoldable pub lookup_of : Machine → List ℕ → State → Symbol → Symbol → Symbol → Result (Option Action) Refusal
lookup_of m s q a0 a1 a2 =
    looked_on (table_check m s)
    (Ok (entry_at s (entry_number m.symbols (stride_of m) q.0 a0.0 a1.0 a2.0)))
