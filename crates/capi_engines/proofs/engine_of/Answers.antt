use Rattle.capi_engines.proofs.Facts.Engines.{engine_read}
use Rattle.capi_engines.proofs.engine_of.Goals as goal

pub returns : goal.returns
returns c = engine_read _ _ _ _ _ c.tape_from-t0.ensures c.tape_from-t1.ensures c.tape_from-t2.ensures
