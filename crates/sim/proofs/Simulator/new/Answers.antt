use Rattle.notation.proofs.Facts.Exit.{exit}
use native.Mathlib.Omega.{arith}
use Rattle.run_checks.proofs.Facts.SizesCases.{fresh_ok}
use Rattle.sim.proofs.Facts.OperationCases.{new_refused, new_made}
use Rattle.sim.proofs.Simulator.new.Goals as goal

pub returns-in_err-fresh_check : goal.returns-in_err-fresh_check
returns-in_err-fresh_check c = rw (exit _ _ c.from_residual.ensures.1) (new_refused _ _ _ _ _ _ _ c.fresh_check.ensures _ c.in_err-fresh_check.was)

pub fresh-t0-requires : goal.fresh-t0-requires
fresh-t0-requires c = (fresh_ok _ _ _ _ _ _ _ c.fresh_check.ensures c.in_ok-fresh_check.was).room0

pub blank-t1-requires : goal.blank-t1-requires
blank-t1-requires c = (fresh_ok _ _ _ _ _ _ _ c.fresh_check.ensures c.in_ok-fresh_check.was).room1

pub blank-t2-requires : goal.blank-t2-requires
blank-t2-requires c = (fresh_ok _ _ _ _ _ _ _ c.fresh_check.ensures c.in_ok-fresh_check.was).room2

pub overflow_cast-result : goal.overflow_cast-result
overflow_cast-result c =
    let g = fresh_ok _ _ _ _ _ _ _ c.fresh_check.ensures c.in_ok-fresh_check.was in
    omega arith

pub returns : goal.returns
returns c = new_made _ _ _ _ _ _ _ c.fresh_check.ensures _ _ _ _ _ _ c.in_ok-fresh_check.was c.fresh-t0.ensures c.blank-t1.ensures c.blank-t2.ensures
