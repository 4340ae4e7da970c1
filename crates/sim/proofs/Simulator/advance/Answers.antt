use Rattle.sim.proofs.Facts.EngineCases.{stepped, rooms_each}
use Rattle.sim.proofs.Simulator.advance.Goals as goal

pub act-u0-requires-clause-d_value : goal.act-u0-requires-clause-d_value
act-u0-requires-clause-d_value c = (rooms_each c.args.self _ _ _ _ c.requires.rooms).0

pub act-u1-requires-clause-d_value : goal.act-u1-requires-clause-d_value
act-u1-requires-clause-d_value c = (rooms_each c.args.self _ _ _ _ c.requires.rooms).1

pub act-u2-requires-clause-d_value : goal.act-u2-requires-clause-d_value
act-u2-requires-clause-d_value c = (rooms_each c.args.self _ _ _ _ c.requires.rooms).2

pub returns : goal.returns
returns c = stepped _ _ _ _ _ _ _ _ _ _ _ c.act-u0.ensures c.act-u1.ensures c.act-u2.ensures
