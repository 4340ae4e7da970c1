use Rattle.capi_engines.proofs.Facts.Engines.{engine_stored}
use Rattle.capi_engines.proofs.put_engine.Goals as goal

pub returns : goal.returns
returns c = engine_stored _ _ _ _ _ c.put_tape-3.ensures c.put_tape-2.ensures c.put_tape.ensures
