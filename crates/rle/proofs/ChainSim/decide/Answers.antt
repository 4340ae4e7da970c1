use Rattle.rle.proofs.Facts.EngineCases.{turn_halts, turn_never, turn_goes}
use Rattle.rle.proofs.ChainSim.decide.Goals as goal

pub returns-in-None : goal.returns-in-None
returns-in-None c = turn_halts _ _ _ _ c.entry_of-found.ensures c.in-None.is

pub returns-then-asked : goal.returns-then-asked
returns-then-asked c = turn_never _ _ _ _ c.entry_of-found.ensures _ c.in-Some.is _ c.loops_on-loops.ensures _ c.asked.ensures c.if-asked.true _ c.proof_of-proof.ensures

pub returns-in-Some : goal.returns-in-Some
returns-in-Some c = turn_goes _ _ _ _ c.entry_of-found.ensures _ c.in-Some.is _ c.loops_on-loops.ensures _ c.asked.ensures c.if-asked.false _ c.fueled.ensures
