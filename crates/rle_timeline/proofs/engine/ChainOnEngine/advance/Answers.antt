use Rattle.rle_timeline.proofs.Facts.EngineCases.{run_asks}
use Rattle.rle_timeline.proofs.engine.ChainOnEngine.advance.Goals as goal

pub advance-told-requires : goal.advance-told-requires
advance-told-requires c = run_asks _ _ _ _ c.requires
