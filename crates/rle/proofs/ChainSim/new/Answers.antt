use Rattle.notation.proofs.Facts.Exit.{exit}
use native.Mathlib.Omega.{arith}
use Rattle.rle.proofs.Facts.OperationCases.{new_refused, new_lays, fresh_start, new_made}
use Rattle.rle.proofs.ChainSim.new.Goals as goal

pub returns-in_err-fresh_check : goal.returns-in_err-fresh_check
returns-in_err-fresh_check c = rw (exit _ _ c.from_residual.ensures.1) (new_refused _ _ _ c.args.ls.now c.args.ll.now c.args.rs.now c.args.rl.now _ _ c.places.ensures c.places-2.ensures _ c.fresh_check.ensures _ c.in_err-fresh_check.was)

pub lay-right-requires-clause-word_bound : goal.lay-right-requires-clause-word_bound
lay-right-requires-clause-word_bound c = (new_lays _ _ _ c.args.ls.now c.args.ll.now c.args.rs.now c.args.rl.now _ _ c.places.ensures c.places-2.ensures _ c.fresh_check.ensures c.in_ok-fresh_check.was).1

pub lay-right-requires-clause-word_len_bound : goal.lay-right-requires-clause-word_len_bound
lay-right-requires-clause-word_len_bound c = (new_lays _ _ _ c.args.ls.now c.args.ll.now c.args.rs.now c.args.rl.now _ _ c.places.ensures c.places-2.ensures _ c.fresh_check.ensures c.in_ok-fresh_check.was).0

pub overflow_cast-result : goal.overflow_cast-result
overflow_cast-result c = omega (arith, fresh_start _ _ _ _ _ _ c.fresh_check.ensures c.in_ok-fresh_check.was)

pub returns : goal.returns
returns c = new_made _ _ _ c.args.ls.now c.args.ll.now c.args.rs.now c.args.rl.now _ _ c.places.ensures c.places-2.ensures _ c.fresh_check.ensures c.in_ok-fresh_check.was _ _ c.lay-right.ensures c.first-cur.ensures
