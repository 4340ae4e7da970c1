-- "the runs of one side, topmost last, symbol and length together", in a lent slice. Definitions only.
use Rattle.outcome.specs.declared.Refusal.{Refusal}
use Rattle.std.specs.Prelude.{List, ℕ, zero, suc, leb, get_or, set, Err, Ok, Result}
use Rattle.notation.specs.Choice.{pick}
use Rattle.symbol.specs.Kinds.{symbol_of}
use Rattle.outcome.specs.declared.Refusal.TheVariants as Why
use Rattle.rle_stack.specs.Model.{Side}
use Rattle.rle_records.specs.declared.Run.{Run}

-- run i: symbol i and length i
abbrev pub run_at : List ℕ → List ℕ → ℕ → Run
run_at ss ls i = record { symbol = symbol_of (get_or ss i 0); len = get_or ls i 0 }

-- places 0 to n − 1 get runs 0 to n − 1; the other places are unchanged
unfoldable pub lay : List ℕ → List ℕ → ℕ → List Run → List Run
lay ss ls zero out = out
lay ss ls (suc n) out = set (lay ss ls n out) n (run_at ss ls n)

-- all the live runs of a side
unfoldable pub records_of : Side → List Run → List Run
records_of x out = lay x.symbols x.lengths x.count out

-- "18 for too short a record slice"
unfoldable pub room_for : (count room : ℕ) → Result ℕ Refusal
room_for count room = pick (leb count room) (Ok count) (Err Why.OutputSize)

-- the number of places written
abbrev pub written_of : Result ℕ Refusal → ℕ
written_of (Ok count) = count
written_of (Err why) = 0
