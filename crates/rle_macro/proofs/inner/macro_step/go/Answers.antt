-- `grind` finds which places `lacks` was asked with, in whatever form they were passed.
use Rattle.std.proofs.Common.{sym, ◌∙◌, ◌≡◌}
use native.Mathlib.Omega.{arith}
use Rattle.rle_stack.specs.Model.{lacks}
use Rattle.rle_stack.specs.Written.{held}
use Rattle.rle_macro.proofs.Facts.MacroStepCases.{reach_some, go_full, go_goes}
use Rattle.rle_macro.proofs.inner.macro_step.go.Goals as goal

pub returns-then-lacks-clause-gone : goal.returns-then-lacks-clause-gone
returns-then-lacks-clause-gone c =
    let e : c.lacks.result ≡ lacks c.args.behind.now.places c.args.s.write (held c.args.behind.now) = grind (arith, c.lacks.ensures c.args.behind.now.lengths.now) in
    go_full _ _ _ _ _ _ _ e c.if-lacks.true

pub carry-cur-requires-clause-place : goal.carry-cur-requires-clause-place
carry-cur-requires-clause-place c =
    let e : c.lacks.result ≡ lacks c.args.behind.now.places c.args.s.write (held c.args.behind.now) = grind (arith, c.lacks.ensures c.args.behind.now.lengths.now) in
    sym e ∙ c.if-lacks.false

pub carry-cur-requires-clause-n_bound : goal.carry-cur-requires-clause-n_bound
carry-cur-requires-clause-n_bound c =
    let some = reach_some _ _ _ _ _ c.requires.2 _ c.reach-repeats.ensures in
    (omega (arith, c.requires.0, some.1), some.0)

pub returns-clause-gone : goal.returns-clause-gone
returns-clause-gone c =
    let e : c.lacks.result ≡ lacks c.args.behind.now.places c.args.s.write (held c.args.behind.now) = grind (arith, c.lacks.ensures c.args.behind.now.lengths.now) in
    go_goes _ _ _ _ _ _ _ e c.if-lacks.false _ c.reach-repeats.ensures _ c.carry-cur.ensures.carried
