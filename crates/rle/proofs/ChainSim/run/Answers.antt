use Rattle.rle.proofs.Facts.OperationCases.{ran_refused, stride_ok, run_ok, ran_done}
use Rattle.rle.proofs.ChainSim.run.Goals as goal

pub returns-in-Err : goal.returns-in-Err
returns-in-Err c = ran_refused _ _ _ _ _ _ c.run_check-checked.ensures _ c.in-Err.is

pub stride-stride-requires : goal.stride-stride-requires
stride-stride-requires c = stride_ok _ _ _ _ _ c.run_check-checked.ensures c.in-Ok.is

pub run_all-ran-requires : goal.run_all-ran-requires
run_all-ran-requires c = run_ok _ _ _ _ _ _ c.run_check-checked.ensures c.in-Ok.is c.stride-stride.ensures.0 c.stride-stride.ensures.1

pub returns-in-Ok : goal.returns-in-Ok
returns-in-Ok c = ran_done _ _ _ _ _ _ c.run_check-checked.ensures _ _ c.in-Ok.is c.run_all-ran.ensures

pub invariant_of-t : goal.invariant_of-t
invariant_of-t c =
    record { ok = (run_ok _ _ _ _ _ _ c.run_check-checked.ensures c.in-Ok.is c.stride-stride.ensures.0 c.stride-stride.ensures.1).table }
