use Rattle.capi_rle.proofs.Facts.Calls.{chain_made, chain_turned}
use Rattle.capi_rle.proofs.new.Goals as goal

pub returns-in-Ok : goal.returns-in-Ok
returns-in-Ok c = chain_made _ _ _ _ _ _ _ _ _ _ _ (rw c.in-Ok.is at c.new-fresh.ensures) c.put_chain.ensures

pub returns-in-Err : goal.returns-in-Err
returns-in-Err c = chain_turned _ _ _ _ _ _ _ _ _ _ _ _ (rw c.in-Err.is at c.new-fresh.ensures) c.refuse.ensures.0 c.refuse.ensures.1
