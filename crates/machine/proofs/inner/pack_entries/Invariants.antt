use Rattle.std.proofs.Common.{◌≡◌, ◌-◌}
use Rattle.notation.specs.Fill.{fill_from}
use Rattle.machine.specs.Model.Packing.{word_at}
use Rattle.machine.proofs.inner.pack_entries.Given as goal

abbrev pub invariant-loop-i : goal.invariant-loop-i
invariant-loop-i l =
    fill_from (word_at l.table l.stride) (l.count - l.i) l.i l.out ≡ fill_from (word_at l.table l.stride) l.count 0 l.initial.out
