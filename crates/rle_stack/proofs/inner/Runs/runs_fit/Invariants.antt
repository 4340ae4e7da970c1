use Prim.Native.Nat.{◌-◌}
use mathlib.Core.Path.{◌≡◌}
use Rattle.notation.specs.Scan.{all_in}
use Rattle.rle_stack.specs.Model.{run_fits, runs_fit}
use Rattle.rle_stack.proofs.inner.Runs.runs_fit.Given as goal

abbrev pub invariant-loop-i : goal.invariant-loop-i
invariant-loop-i g l = all_in (run_fits l.k l.self.symbols l.self.lengths) (l.self.count - l.i) l.i ≡ runs_fit l.k l.self
