use Prim.Native.Nat.{◌-◌}
use mathlib.Core.Path.{◌≡◌}
use Rattle.notation.specs.Fill.{fill_from}
use Rattle.rle_macro.specs.Model.Questions.{window_on, window_all}
use Rattle.rle_macro.proofs.inner.questions.Tape.fill_window.Given as goal

abbrev pub invariant-loop-j : goal.invariant-loop-j
invariant-loop-j l =
    fill_from (window_on l.self.head l.self.cur l.self.left l.self.right l.raised) (l.j-end - l.j) l.j l.out ≡ window_all l.self.head l.self.cur l.self.left l.self.right l.raised l.initial.out
