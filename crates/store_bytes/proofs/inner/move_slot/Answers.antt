use Rattle.store_bytes.proofs.Facts.LoopCases.{moved_below}
use Rattle.store_bytes.proofs.inner.move_slot.Goals as goal

pub returns : goal.returns
returns c = moved_below c.args.size c.args.from c.args.to c.args.store.now c.requires.size_in_bounds c.requires.to_lt_from _ _ _ c.split_at_mut-low.ensures.front c.split_at_mut-low.ensures.back c.copy_in.ensures
