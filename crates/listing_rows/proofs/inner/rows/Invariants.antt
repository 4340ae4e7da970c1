use mathlib.Core.Path.{◌≡◌}
use lib.ListN.{length}
use Rattle.sim_timeline.specs.Model.{with_lent}
use Rattle.listing_rows.proofs.Facts.RowCases.{RowsInv}
use Rattle.listing_rows.proofs.inner.rows.Given as goal

abbrev pub invariant-loop-i : goal.invariant-loop-i
invariant-loop-i l =
    RowsInv l.m l.table l.calls l.n l.initial.out l.at (with_lent l.initial.line l.initial.c0 l.initial.c1 l.initial.c2 l.initial.store) (with_lent l.line l.c0 l.c1 l.c2 l.store) l.out l.end l.i
    × (length l.c0 ≡ length l.initial.c0) × (length l.c1 ≡ length l.initial.c1) × (length l.c2 ≡ length l.initial.c2) × (length l.store ≡ length l.initial.store)
