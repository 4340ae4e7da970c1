use Rattle.capi_rle.proofs.Facts.Timelines.{chain_timeline_called}
use Rattle.capi_rle.proofs.timelines.call.Goals as goal

pub returns : goal.returns
returns c =
    rw (← c.chain_of.ensures, ← c.times_of.ensures)
    (chain_timeline_called _ _ _ _ _ _ _ _ _ _ _ _ _ _ _ _ c.call-answered.result.answer c.call-answered.ensures c.put_times.ensures c.hand_back.ensures)
