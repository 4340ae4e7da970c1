use Rattle.sim_timeline.proofs.Facts.EngineCases.{save_asks}
use Rattle.sim_timeline.proofs.engine.PlainOnEngine.save.Goals as goal

pub save-requires : goal.save-requires
save-requires c = save_asks _ _ _ c.requires
