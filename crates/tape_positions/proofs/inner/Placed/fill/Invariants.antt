use Rattle.std.proofs.Common.{◌≡◌, ◌-◌, length}
use Rattle.notation.specs.Fill.{fill_from}
use Rattle.tape_positions.specs.Model.{place_of, window_from}
use Rattle.tape_positions.proofs.inner.Placed.fill.Given as goal

abbrev pub invariant-loop-j : goal.invariant-loop-j
invariant-loop-j l =
    fill_from (place_of l.self.origin l.self.len l.self.cells.now l.from) (length l.initial.out - l.j) l.j l.out ≡ window_from l.self.origin l.self.len l.self.cells.now l.from l.initial.out
