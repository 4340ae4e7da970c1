use Rattle.listing.proofs.Facts.OutputCases.{fresh_turned, fresh_made}
use Rattle.listing.proofs.asked.on_engine.Goals as goal

pub returns-in-Err : goal.returns-in-Err
returns-in-Err c = fresh_turned _ _ _ _ _ _ _ _ _ _ c.new-fresh.ensures _ _ c.in-Err.is c.number.ensures c.refused.ensures

pub returns-in-Ok : goal.returns-in-Ok
returns-in-Ok c = fresh_made _ _ _ _ _ _ _ _ _ _ c.new-fresh.ensures _ c.in-Ok.is c.on_timeline.ensures
