use Rattle.std.proofs.Common.{◌≡◌, ◌-◌}
use Rattle.table_bytes.specs.Model.Entries.{entry_for}
use Rattle.notation.specs.Scan.{first_fail}
use Rattle.table_bytes.proofs.inner.first_bad.Given as goal

abbrev pub invariant-loop-i : goal.invariant-loop-i
invariant-loop-i l = first_fail (entry_for l.n l.t l.k l.table) (l.count - l.i) l.i ≡ first_fail (entry_for l.n l.t l.k l.table) l.count 0
