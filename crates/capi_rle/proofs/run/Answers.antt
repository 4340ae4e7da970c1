use Rattle.capi_rle.proofs.Facts.Calls.{chain_ran}
use Rattle.capi_rle.proofs.run.Goals as goal

pub returns : goal.returns
returns c = rw (← c.chain_of-sim.ensures, ← c.rule_of-stop.ensures) (chain_ran _ _ _ _ _ _ _ _ _ _ _ _ _ _ c.run-ran.ensures c.hand_back.ensures)
