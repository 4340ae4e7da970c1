-- WHAT THE ROWS OF A LISTING SAY: each row belongs to one call of the list, and the third demand is true for that call. Definitions only.
use Rattle.std.specs.Prelude.{ℕ, ◌≡◌, List, ◌∷◌, ◌++◌}
use Rattle.outcome.specs.declared.Outcome.{Outcome}
use Rattle.machine.specs.declared.Machine.{Machine}
use Rattle.tape.specs.Model.Moves.{held}
use Rattle.tape.specs.Model.Questions.{count_of}
use Rattle.sim.specs.Model.Engine.{Conf}
use Rattle.sim_refines.specs.Counts.{Counts}
use Rattle.timeline_rule.specs.declared.Call.{Call}
use Rattle.timeline_rule.specs.Model.Timeline.{answered}
use Rattle.timeline_rule.specs.Model.Kind.{TimelineOf, new_on, call_on}
use Rattle.sim_slots.specs.Model.Kind.{create_of, plain_kind}
use Rattle.timeline_laws.specs.Statement.{after_on, held_on, FreshList}
use Rattle.sim_timeline_laws.specs.Meaning.{plain_engine}
use Rattle.listing_reader.specs.Listing.{Sofar, table_in}
use Rattle.listing_rows.specs.Rows.{Row, row, row_of, rows_of, output}
use Rattle.listing.specs.Output.{answer_to, blank_cells, blank_store}

-- the row of a call that is made on a timeline
abbrev pub row_at : Machine → (table : List ℕ) → TimelineOf plain_kind → Call → Row
row_at m s v c = row_of (call_on plain_kind m s v c).0 (call_on plain_kind m s v c).1.engine.sim (call_on plain_kind m s v c).1.engine.c0

-- "runs the plain engine: 4,096 cells a tape, m 8, interval 16": the fresh engine on the listing's word, and the new timeline over it. Neither is refused.
pub record Begins (m : Machine) (table word : List ℕ) : Type 0 where
  pub engine : Conf
  pub timeline : TimelineOf plain_kind
  pub created : create_of m table word blank_cells ≡ answered engine
  pub begun : new_on plain_kind m table 8 16 engine blank_store ≡ answered timeline

module _ (s : List ℕ) (x : Sofar) where
  abbrev m : Machine
  m = x.machine

  abbrev t : List ℕ
  t = table_in x

  -- for a listing s without a bad line, of which x is what its lines say
  pub record RowsSay : Type 0 where
    pub begins : Begins m t x.word
    -- the output is the names line, and a row for each call
    pub rows : answer_to s ≡ output (rows_of m t begins.timeline x.calls)
    -- the third demand for these calls on this timeline: where the engine is, the answer of each call, which calls are refused, and never
    pub third : FreshList plain_engine m t x.word begins.engine begins.timeline x.calls
    -- the row of each call's result is in the call's place
    pub each : (before rest : List Call) (c : Call) → before ++ (c ∷ rest) ≡ x.calls
        → rows_of m t begins.timeline x.calls
        ≡ rows_of m t begins.timeline before
        ++ (row_at m t (after_on plain_engine m t begins.timeline before) c ∷ rows_of m t (call_on plain_kind m t (after_on plain_engine m t begins.timeline before) c).1 rest)
    -- a row contains the numbers of the configuration that the engine then has
    pub holds : (u : TimelineOf plain_kind) (o : Outcome)
        → row_of (answered o) u.engine.sim u.engine.c0
        ≡ row o (held_on plain_engine m t u).steps (held_on plain_engine m t u).state (held_on plain_engine m t u).tape0.head
        (held_on plain_engine m t u).tape0.low (held_on plain_engine m t u).tape0.high (count_of (held u.engine.sim.t0 u.engine.c0))
    -- the score is the number of its non-blank cells
    pub score : (u : TimelineOf plain_kind) → Counts (held_on plain_engine m t u).tape0.cell (count_of (held u.engine.sim.t0 u.engine.c0))
