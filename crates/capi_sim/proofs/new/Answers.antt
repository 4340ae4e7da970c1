use Rattle.capi_sim.proofs.Facts.Calls.{new_called, new_turned}
use Rattle.capi_sim.proofs.new.Goals as goal

pub returns-in-Ok : goal.returns-in-Ok
returns-in-Ok c = new_called _ _ _ _ _ _ _ _ _ (rw c.in-Ok.is at c.new-fresh.ensures) c.put_engine.ensures

pub returns-in-Err : goal.returns-in-Err
returns-in-Err c = new_turned _ _ _ _ _ _ _ _ _ _ (rw c.in-Err.is at c.new-fresh.ensures) c.refuse.ensures.0 c.refuse.ensures.1
