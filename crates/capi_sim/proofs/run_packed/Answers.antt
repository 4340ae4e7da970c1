use Rattle.capi_sim.proofs.Facts.Calls.{ran_called}
use Rattle.capi_sim.proofs.run_packed.Goals as goal

pub returns : goal.returns
returns c = rw (← c.engine_of-sim.ensures, ← c.rule_of-stop.ensures) (ran_called _ _ _ _ _ _ _ _ _ _ _ _ c.run_packed-ran.ensures c.hand_back.ensures)
