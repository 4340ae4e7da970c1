use Rattle.capi_sim.proofs.Facts.Calls.{step_called}
use Rattle.capi_sim.proofs.step.Goals as goal

pub returns : goal.returns
returns c =
    rw (← c.engine_of-sim.ensures)
    (step_called _ _ _ _ _ _ _ _ _ _ _ c.step-stepped.ensures c.put_engine.ensures c.put_result.ensures.0 c.put_result.ensures.1)
