use native.Mathlib.Omega.{arith}
use Rattle.listing.proofs.Facts.OutputCases.{new_fits, new_turned, new_rows}
use Rattle.listing.proofs.asked.on_timeline.Goals as goal

pub returns-in-Err : goal.returns-in-Err
returns-in-Err c = new_turned _ _ _ _ _ _ _ _ _ c.new-begun.ensures _ _ _ c.in-Err.is c.number.ensures c.refused.ensures

pub rows-requires : goal.rows-requires
rows-requires c = (omega (arith, c.requires.0, c.requires.2, c.put-at.ensures.0), omega (arith, c.requires.1, c.requires.2), new_fits _ _ _ _ _ _ _ _ _ c.new-begun.ensures _ c.in-Ok.is)

pub returns-in-Ok : goal.returns-in-Ok
returns-in-Ok c = new_rows _ _ _ _ _ _ _ _ _ c.new-begun.ensures _ _ _ _ c.in-Ok.is c.put-at.ensures (omega (arith, c.requires.0)) c.rows.ensures.0
