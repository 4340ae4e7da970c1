-- THE OUTPUT of document 01 ("Listing"): from the bytes of the input to the bytes that `seekrun` prints. Definitions only.
use Rattle.std.specs.Prelude.{ℕ, ◌+◌, ◌*◌, ◌≤◌, List, [], ◌++◌, ltb, length, drop, replicate, Err, Ok, Result}
use Rattle.notation.specs.Choice.{pick}
use Rattle.outcome.specs.declared.Refusal.{Refusal}
use Rattle.outcome.specs.declared.Refusal.TheVariants as Why
use Rattle.outcome.specs.Numbers.{refusal_number}
use Rattle.machine.specs.declared.Machine.{Machine}
use Rattle.sim.specs.Model.Engine.{Conf}
use Rattle.timeline_rule.specs.declared.Call.{Call}
use Rattle.timeline_rule.specs.Model.Timeline.{Reply, refused, answered}
use Rattle.timeline_rule.specs.Model.Kind.{new_on}
use Rattle.sim_slots.specs.Model.Kind.{Lent, create_of, plain_kind}
use Rattle.listing_reader.specs.Listing.{Sofar, table_in, Listing, listing}
use Rattle.listing_reader.specs.Listing as Read
use Rattle.listing_rows.specs.Rows.{row_most, rows_of, refused_line, output}

-- ---- "`seekrun` .. runs the plain engine: 4,096 cells a tape, m 8, interval 16"

abbrev pub lent_of : (c0 c1 c2 : List ℕ) → Lent
lent_of c0 c1 c2 = record { c0 = c0; c1 = c1; c2 = c2 }

-- the machine has one tape, so the others have no cells
unfoldable pub blank_cells : Lent
blank_cells = lent_of (replicate 4096 0) [] []

-- m + 1 slots, each 128 bytes larger than the cells: 9 × 4,224
unfoldable pub blank_store : List ℕ
blank_store = replicate 38016 0

-- `out` of a refusal, or `go` of an answer
abbrev pub on_reply : {A B : Type 0} → Reply A → (Refusal → B) → (A → B) → B
on_reply (refused why) out go = out why
on_reply (answered a) out go = go a

-- `refused` and the refusal's number
unfoldable pub turned : Refusal → List ℕ
turned why = refused_line (refusal_number why)

-- a new timeline over an engine, and the rows of the calls on it
unfoldable pub answer_on : Machine → (table store : List ℕ) → List Call → Conf → List ℕ
answer_on m s store calls e = on_reply (new_on plain_kind m s 8 16 e store) turned (λ w. output (rows_of m s w calls))

-- the same over a fresh engine
unfoldable pub answer_with : Machine → (table word : List ℕ) → Lent → (store : List ℕ) → List Call → List ℕ
answer_with m s word lent store calls = on_reply (create_of m s word lent) turned (answer_on m s store calls)

-- the answer to an input without a bad line
unfoldable pub answer_of : Sofar → List ℕ
answer_of x = answer_with x.machine (table_in x) x.word blank_cells blank_store x.calls

-- "A bad line .. prints only `refused` and the line number"
unfoldable pub answer_for : Listing → List ℕ
answer_for (Read.refused n) = refused_line n
answer_for (Read.asked x) = answer_of x

unfoldable pub answer_to : (input : List ℕ) → List ℕ
answer_to input = answer_for (listing input)

-- ---- the whole function, with its lent output

-- the most bytes of an answer: a names line of 39 bytes, and 64 rows
abbrev pub output_most : ℕ
output_most = 39 + 64 * row_most

-- refusal 18 where the output is shorter than that
unfoldable pub list_of : (input out : List ℕ) → Result ℕ Refusal × List ℕ
list_of input out =
    pick (ltb (length out) output_most) (Err Why.OutputSize, out)
    (Ok (length (answer_to input)), answer_to input ++ drop (length (answer_to input)) out)

-- what was printed lies in the output
abbrev pub PrintedIn : Result ℕ Refusal → (long : ℕ) → Type 0
PrintedIn (Ok n) long = n ≤ long
PrintedIn (Err why) long = Unit {0}
