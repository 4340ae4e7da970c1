use Rattle.capi_numbers.proofs.Facts.Timelines.{timeline_made, timeline_turned}
use Rattle.capi_rle.proofs.timelines.new.Goals as goal

pub returns-in-Ok : goal.returns-in-Ok
returns-in-Ok c = rw (← c.chain_of-sim.ensures) (timeline_made _ _ _ _ _ _ _ (rw c.in-Ok.is at c.new-begun.ensures) c.put_times.ensures)

pub returns-in-Err : goal.returns-in-Err
returns-in-Err c =
    rw (← c.chain_of-sim.ensures)
    (timeline_turned _ _ _ _ _ _ _ _ (rw c.in-Err.is at c.new-begun.ensures) c.refuse.ensures.0 c.refuse.ensures.1)
