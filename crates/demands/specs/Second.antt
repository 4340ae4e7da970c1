-- THE SECOND DEMAND: "For every table, word and engine value that document 01 accepts, with step totals up to 2^62 and while space lasts, answers and tapes equal
-- the Rust's in differential runs, save its named departures, and both engines are proved equal to document 01's table machine. Packing a one-tape entry and
-- unpacking it gives the entry."
use Rattle.machine.specs.declared.Action.{Action}
use Rattle.std.specs.Prelude.{◌≡◌, List, ℕ, ◌*◌, ◌≤◌, length, Option}
use Rattle.machine.specs.declared.Machine.{Machine}
use Rattle.machine.specs.Model.Packing.{pack_word, word_entry}
use Rattle.table_laws.specs.WellFormed.{EntryOf, WellFormed}
use Rattle.table_laws.proofs.Facts.RoundTrip.{packed_entry_unpacks}
use Rattle.demands_second.specs.Accepts.{Packs}
use Rattle.demands_second.proofs.Facts.PlainAccepts.{packs}
use Rattle.demands_second.specs.SecondPlain.{PlainEngine}
use Rattle.demands_second.proofs.SecondPlain.{plain_engine_lem}
use Rattle.demands_second.specs.SecondChain.{ChainEngine}
use Rattle.demands_second.proofs.SecondChain.{chain_engine_lem}

pub record SecondDemand : Type 0 where
  -- "For every table, word and engine value that document 01 accepts, with step totals up to 2^62 and while space lasts, answers and tapes equal the Rust's in
  -- differential runs, save its named departures, and both engines are proved equal to document 01's table machine."
  -- the plain engine: inputs accepted, fresh engines, runs, steps, never, the fast run, the bytes past the lengths of its tapes, the questions
  pub plain : PlainEngine
  -- the run-length engine: inputs accepted, fresh engines, runs, never, macro steps, how fuel was cut, space, empty sides, the questions, its runs as records
  pub chain : ChainEngine
  -- "Packing a one-tape entry and unpacking it gives the entry."
  pub packing : (m : Machine) (s : List ℕ) → WellFormed m s → m.tapes ≡ 1 → (e : Option Action) → EntryOf m e → word_entry (pack_word e m.symbols) ≡ e
  -- packing a table of one tape, with an output of n × k places or more: place i holds the packed word of entry i, and the places past these stay (Packs)
  pub packed : (m : Machine) (s : List ℕ) → WellFormed m s → m.tapes ≡ 1 → (out : List ℕ) → m.states * m.symbols ≤ length out → Packs m s out

pub second_demand : SecondDemand
second_demand = record { plain = plain_engine_lem; chain = chain_engine_lem; packing = packed_entry_unpacks; packed = packs }
