use Rattle.std.proofs.Common.{sym}
use Rattle.rle_timeline.proofs.Facts.EngineCases.{live_in}
use Rattle.rle_timeline.proofs.engine.ChainOnEngine.save.Goals as goal

pub save-requires : goal.save-requires
save-requires c = record { left_bound = live_in _ _ _ c.requires; slot_len = sym c.requires.fits.sized }
