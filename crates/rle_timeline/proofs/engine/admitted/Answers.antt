use Rattle.std.proofs.Common.{◌∙◌, sym}
use Rattle.rle_timeline.proofs.Facts.EngineCases.{sizes_in}
use Rattle.rle_timeline.proofs.engine.admitted.Goals as goal

pub slot_size-requires : goal.slot_size-requires
slot_size-requires c = sizes_in _ _ _ (sym c.engine_check.ensures ∙ c.in_ok-engine_check.was)
