use Rattle.sim.proofs.Facts.OperationCases.{stride_ok, run_says, run_ok}
use Rattle.sim.proofs.Simulator.run_checked.Goals as goal

pub stride-requires : goal.stride-requires
stride-requires c = stride_ok _ _ _ _ (c.requires.cleared.runs c.in-Ok.is)

pub run_over-ran-requires-clause-run_ok : goal.run_over-ran-requires-clause-run_ok
run_over-ran-requires-clause-run_ok c = run_ok _ _ _ _ _ _ _ _ _ (c.requires.cleared.runs c.in-Ok.is) c.bare.ensures c.stride.ensures.0 c.stride.ensures.1

pub run_over-ran-requires-clause-table_value : goal.run_over-ran-requires-clause-table_value
run_over-ran-requires-clause-table_value c = (run_says _ _ _ _ (c.requires.cleared.runs c.in-Ok.is)).0.table
