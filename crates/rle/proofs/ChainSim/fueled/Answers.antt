use Rattle.rle.proofs.Facts.EngineCases.{fuel_none, fuel_stops, fuel_goes}
use Rattle.rle.proofs.ChainSim.fueled.Goals as goal

pub returns-then-fuel-eq0 : goal.returns-then-fuel-eq0
returns-then-fuel-eq0 c = fuel_none _ _ _ _ _ c.if-fuel-eq0.true

pub returns-then-matches : goal.returns-then-matches
returns-then-matches c = fuel_stops _ _ _ _ _ c.if-fuel-eq0.false _ c.matches.ensures c.if-matches.true

pub returns : goal.returns
returns c = fuel_goes _ _ _ _ _ c.if-fuel-eq0.false _ c.matches.ensures c.if-matches.false _ c.eq-keeps.ensures
