-- The theorem that the rows of a listing say what Rows states, from the third demand of the plain engine. Assumes nothing.
use Rattle.std.specs.Prelude.{ℕ, ◌≡◌, refl, List, [], ◌∷◌, ◌++◌}
use Rattle.std.proofs.Common.{ap}
use Rattle.std.proofs.Math.Path.{subst}
use Rattle.machine.specs.declared.Machine.{Machine}
use Rattle.tape.specs.Model.Moves.{held}
use Rattle.sim_refines.proofs.Facts.Questions.{count_is}
use Rattle.timeline_rule.specs.declared.Call.{Call}
use Rattle.timeline_rule.specs.Model.Kind.{TimelineOf, call_on}
use Rattle.sim_slots.specs.Model.Kind.{plain_kind}
use Rattle.timeline_laws.specs.Statement.{after_on}
use Rattle.timeline_laws.proofs.Facts.Third.{demand}
use Rattle.sim_timeline_laws.specs.Meaning.{plain_engine}
use Rattle.sim_timeline_laws.proofs.Facts.Instance.{plain_instances, plain-begins}
use Rattle.listing_reader.specs.Listing.{Sofar, table_in, listing, asked}
use Rattle.listing_reader.proofs.Facts.Accepted.{asked_kept}
use Rattle.listing_rows.specs.Rows.{row_of, rows_of, rows_on}
use Rattle.listing.specs.Output.{blank_cells, blank_store}
use Rattle.listing_laws.specs.Rows.{row_at, RowsSay}
use Rattle.listing_laws.proofs.Facts.Accepted.{asked_begins, asked_rows}
use Rattle.listing_laws.proofs.Facts.TableBytes.{kept_bytes}

-- the rows of a list, split at one call
rows_at : (m : Machine) (s : List ℕ) (v : TimelineOf plain_kind) (before rest : List Call) (c : Call)
    → rows_of m s v (before ++ (c ∷ rest))
    ≡ rows_of m s v before ++ (row_at m s (after_on plain_engine m s v before) c ∷ rows_of m s (call_on plain_kind m s (after_on plain_engine m s v before) c).1 rest)
unfolding rows_on
rows_at m s v [] rest c = refl
rows_at m s v (b ∷ before) rest c = ap (λ rs. row_at m s v b ∷ rs) (rows_at m s (call_on plain_kind m s v b).1 before rest c)

module _ (s : List ℕ) (x : Sofar) (e : listing s ≡ asked x) where
  abbrev m : Machine
  m = x.machine

  abbrev t : List ℕ
  t = table_in x

  abbrev v : TimelineOf plain_kind
  v = (asked_begins s x e).timeline

  pub listing_rows : RowsSay s x
  unfolding row_of
  listing_rows = record {
    begins = asked_begins s x e;
    rows = asked_rows s x e;
    third = demand plain_engine plain_instances plain-begins m t x.word (kept_bytes x (asked_kept s x e)) blank_cells (asked_begins s x e).engine (asked_begins s x e).created 8 16 blank_store v (asked_begins s x e).begun x.calls;
    each = λ before rest c q. subst (λ cs. rows_of m t v cs ≡ rows_of m t v before ++ (row_at m t (after_on plain_engine m t v before) c ∷ rows_of m t (call_on plain_kind m t (after_on plain_engine m t v before) c).1 rest)) q (rows_at m t v before rest c);
    holds = λ u o. refl;
    score = λ u. count_is (held u.engine.sim.t0 u.engine.c0);
  }
