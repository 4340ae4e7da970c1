use Rattle.capi_sim.proofs.Facts.Timelines.{timeline_called}
use Rattle.capi_sim.proofs.timelines.call.Goals as goal

pub returns : goal.returns
returns c =
    rw (← c.engine_of.ensures, ← c.times_of.ensures)
    (timeline_called _ _ _ _ _ _ _ _ _ _ _ _ _ _ c.call-answered.result.answer c.call-answered.ensures c.put_times.ensures c.hand_back.ensures)
